use Rattle.tw_instr.proofs.Names.{either_empty_from_Zip, refl, sym, ◌∙◌}
use Rattle.tw_instr.proofs.Handing.{suit_at_end}
use Rattle.tw_instr.proofs.arguments.values_suit.Goals as goal

pub returns : goal.returns
returns c = sym (c.loop-param.invariant ∙ suit_at_end _ _ _ (either_empty_from_Zip c.loop-param.param-iterator c.next.new.self _ refl c.in-None.ensures.steps))
