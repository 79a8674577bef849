use Rattle.tw_verify.proofs.VerifierNames.{either_empty_from_Zip, refl, sym, ◌∙◌}
use Rattle.tw_verify.proofs.Asking.{nothing_leaves}
use Rattle.tw_verify.proofs.typing.Typing.without_args.Goals as goal

pub returns : goal.returns
returns c = sym (c.loop-param.invariant.rest ∙ nothing_leaves _ _ c.loop-param.left (either_empty_from_Zip c.loop-param.param-iterator c.next.new.self _ refl c.in-None.ensures.steps))
