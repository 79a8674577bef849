use Rattle.tw_report.proofs.Names.{length, words_in, ◌≡◌}
use Rattle.tw_report.proofs.words.without_gap.Given as goal

abbrev pub invariant-loop-rest : goal.invariant-loop-rest
invariant-loop-rest l = words_in l.rest ≡ words_in l.bytes

abbrev pub decreases-loop-rest : goal.decreases-loop-rest
decreases-loop-rest l = length l.rest
