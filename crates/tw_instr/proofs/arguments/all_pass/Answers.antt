use Rattle.tw_instr.proofs.Names.{arg_of, either_empty_from_Zip, refl, sym, test_of, ◌∙◌}
use Rattle.tw_instr.proofs.Handing.{pass_at_end}
use Rattle.tw_instr.proofs.arguments.all_pass.Goals as goal

pub returns : goal.returns
returns c = sym (c.loop-param.invariant ∙ pass_at_end arg_of (test_of c.args.need) c.args.store.now.live _ _ (either_empty_from_Zip c.loop-param.param-iterator c.next.new.self _ refl c.in-None.ensures.steps))
