use Rattle.std.proofs.Common.{◌<◌, arith, pos, to_z, w64}
use Rattle.std.proofs.lemmas.Int.{to_z_pos}
use Rattle.tw_handles.proofs.Listed.{listed_more}
use Rattle.tw_handles.proofs.lists.counted.Goals as goal

pub loop-index-preserved : goal.loop-index-preserved
loop-index-preserved c =
    let index = c.loop-index.index in
    let small : index < 9223372036854775808 = omega (arith, c.loop-index-test.true, c.requires) in
    listed_more pos c.loop-index.numbers.items c.push.new.self.items index (to_z w64 index) c.loop-index.invariant c.in_ok-push.ensures.items (to_z_pos w64 index small)
