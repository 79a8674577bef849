use Rattle.std.proofs.Common.{refl}
use Rattle.std.proofs.lemmas.Slice.Zip.{either_empty_from_Zip}
use Rattle.tw_copies.proofs.Registers.{none_passed}
use Rattle.tw_copies.proofs.marks.unmet_args.Goals as goal

pub returns : goal.returns
returns c =
    let at_end = either_empty_from_Zip c.loop-param.param-iterator c.next.new.self _ refl c.in-None.ensures.steps in
    c.loop-param.invariant.met (λ owner register h. absurd (none_passed c.loop-param.next _ _ h.1 register at_end h.3))
