use Rattle.tw_instr.proofs.Names.{ap, arg_of, either_empty_from_Zip, map, refl, ◌∙◌}
use Rattle.tw_instr.proofs.Handing.{after, after_nothing, given_at_end}
use Rattle.tw_instr.proofs.arguments.take_args.Goals as goal

pub returns-clause-given : goal.returns-clause-given
returns-clause-given c =
    c.loop-param.invariant.rest
    ∙ ap (after (map arg_of c.loop-param.args.items)) (given_at_end c.args.position.now.values c.loop-param.rights _ _ (either_empty_from_Zip c.loop-param.param-iterator c.next.new.self _ refl c.in-None.ensures.steps))
    ∙ after_nothing (map arg_of c.loop-param.args.items) c.loop-param.rights
