use Rattle.tw_inputs.proofs.InputTheorems.{one_word_more, refused_at}
use Rattle.tw_inputs.proofs.words.inputs_of.Goals as goal

pub returns-in-None-clause-refused : goal.returns-in-None-clause-refused
returns-in-None-clause-refused c =
    refused_at c.loop-index.inputs.items c.args.words.now c.loop-index.index _ c.loop-index-test.true c.loop-index.invariant (rw c.in-None.is at c.in_ok-input.ensures) c.refused_word.result c.refused_word.ensures

pub loop-index-preserved : goal.loop-index-preserved
loop-index-preserved c =
    one_word_more c.loop-index.inputs.items c.push.new.self.items c.args.words.now c.loop-index.index _ c.in-Some.input c.loop-index-test.true c.loop-index.invariant (rw c.in-Some.is at c.in_ok-input.ensures)
    c.in_ok-push-in-Some.ensures.items
