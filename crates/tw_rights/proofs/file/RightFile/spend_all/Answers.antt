use Rattle.std.proofs.Common.{◌∙◌, arith}
use Rattle.tw_rights.proofs.Emptied.{all_empty}
use Rattle.tw_rights.proofs.file.RightFile.spend_all.Goals as goal

pub begin-requires : goal.begin-requires
begin-requires c = all_empty c.loop-place.self c.used-place-end.result c.loop-place.place c.loop-place.invariant.count c.loop-place.invariant.spent c.loop-place.invariant.rest (omega (arith, c.loop-place-test.false))

pub returns : goal.returns
returns c =
    c.begin.ensures ∙ all_empty c.loop-place.self c.used-place-end.result c.loop-place.place c.loop-place.invariant.count c.loop-place.invariant.spent c.loop-place.invariant.rest (omega (arith, c.loop-place-test.false))
