use Rattle.tw_each.specs.Shares.{AreMerged}
use Rattle.tw_each.proofs.threads.merged.Given as goal

abbrev pub invariant-loop-answers : goal.invariant-loop-answers
invariant-loop-answers l = AreMerged l.yielded l.all.text.items l.all.worst
