use Rattle.tw_frame.proofs.Names.{List, ap, map-set, set, text_in, ℕ, ◌∙◌}
use Rattle.tw_frame.specs.declared.texts.Slot.TheVariants.{Own}
use Rattle.tw_frame.proofs.texts.Texts.set.Goals as goal

pub returns : goal.returns
returns c = map-set text_in c.self.inside.slots.items c.args.index (Own c.args.text) ∙ ap (λ (texts : List (List ℕ)). set texts c.args.index c.args.text) c.self.view_is
