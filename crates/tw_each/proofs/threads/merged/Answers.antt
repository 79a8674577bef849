use Rattle.tw_each.proofs.Sharing.{one_merged_more}
use Rattle.tw_each.proofs.threads.merged.Goals as goal

pub loop-answers-preserved : goal.loop-answers-preserved
loop-answers-preserved c =
    one_merged_more c.loop-answers.yielded c.in-Some.answers c.in_ok-answers.field-0 c.loop-answers.all.text.items c.in_ok-all.all.text.items c.loop-answers.all.worst c.in_ok-all.all.worst c.loop-answers.invariant c.in_ok-answers.was
    c.in_ok-all.ensures.0 c.in_ok-all.ensures.1
