use Rattle.std.proofs.Common.{◌<◌, ◌^◌, arith, to_z, w64}
use Rattle.std.proofs.lemmas.Int.{to_z_pos}
use Rattle.tw_inputs.proofs.Listed.{none_at, one_value_more}
use Rattle.tw_inputs.proofs.json_list.numbered.Goals as goal

pub returns-in-None : goal.returns-in-None
returns-in-None g c =
    none_at g.V.Part.of_value c.args.items.now c.loop-index.index c.index-items-index.result c.loop-index-test.true c.index-items-index.is (rw c.in-None.is at c.in_ok-value.ensures)

pub loop-index-preserved : goal.loop-index-preserved
loop-index-preserved g c =
    let low : c.loop-index.index < 2 ^ 63 = omega arith in
    one_value_more g.V.Part.of_value c.args.items.now c.loop-index.index c.index-items-index.result c.loop-index-test.true c.index-items-index.is c.loop-index.values.items c.push.new.self.items (to_z w64 c.loop-index.index) c.in-Some.value
    (to_z_pos w64 c.loop-index.index low) (rw c.in-Some.is at c.in_ok-value.ensures) c.loop-index.invariant c.in_ok-push-in-Some.ensures.items
