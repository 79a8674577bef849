use Rattle.std.proofs.Common.{arith}
use Rattle.tw_inputs.proofs.Seen.{bad_at, one_input_more}
use Rattle.tw_inputs.proofs.json_inputs.inputs_of.Goals as goal

pub returns-in-None-clause-fault : goal.returns-in-None-clause-fault
returns-in-None-clause-fault c =
    (c.loop-index.index, omega arith, bad_at c.args.params.now c.args.items.now c.loop-index.index c.index-items-index.result c.loop-index-test.true c.index-items-index.is c.loop-index.inputs.items c.type_at.result c.type_at.ensures c.loop-index.invariant (rw c.in-None.is at c.in_ok-input.ensures))

pub loop-index-preserved : goal.loop-index-preserved
loop-index-preserved c =
    one_input_more c.args.params.now c.args.items.now c.loop-index.index c.index-items-index.result c.loop-index-test.true c.index-items-index.is c.loop-index.inputs.items c.push.new.self.items c.in-Some.input c.type_at.result c.type_at.ensures c.loop-index.invariant
    (rw c.in-Some.is at c.in_ok-input.ensures) c.in_ok-push-in-Some.ensures.items
