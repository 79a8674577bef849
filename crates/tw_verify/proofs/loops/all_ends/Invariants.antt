use Rattle.tw_verify.proofs.VerifierNames.{EndsFrom, flows}
use Rattle.tw_verify.proofs.loops.all_ends.Given as goal

abbrev pub invariant-loop-place : goal.invariant-loop-place
invariant-loop-place l = EndsFrom (flows l.code) l.ends.items l.place
