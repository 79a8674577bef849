use Rattle.tw_asm.proofs.AsmNames.{ap, bytes_eq, inr, is_some, sym, ◌∙◌}
use Rattle.indexmap.proofs.CallerLemmas.{insert_entry-new}
use Rattle.tw_asm.proofs.LabelMaps.{added_is, name_absent, name_present}
use Rattle.tw_asm.proofs.bodies.add_label.Goals as goal

pub returns-in-Some : goal.returns-in-Some
returns-in-Some c = inr (c.new.ensures.no, c.new.ensures.line, name_present c.args.name.now c.args.labels.now.entries (ap is_some (sym c.in-Some.is ∙ c.in_ok-insert.ensures.old)))

pub returns-in-None : goal.returns-in-None
returns-in-None c = (
  name_absent c.args.name.now c.args.labels.now.entries (ap is_some (sym c.in-None.is ∙ c.in_ok-insert.ensures.old)),
  added_is c.args.name c.args.place c.args.labels.now.entries c.insert.new.self.entries (c.in_ok-insert.ensures.entries ∙ insert_entry-new (λ x y. bytes_eq x.now y.now) c.args.labels.now c.args.name c.args.place (sym (sym c.in-None.is ∙ c.in_ok-insert.ensures.old))),
)
