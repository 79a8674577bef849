use Rattle.tw_verify.proofs.VerifierNames.{drop, max, needed, needed_by_all, ◌≡◌}
use Rattle.tw_verify.proofs.needs.needed.Given as goal

-- the most so far, and of those that are left
abbrev pub invariant-loop-procedure : goal.invariant-loop-procedure
invariant-loop-procedure l = needed l.kind l.procedures ≡ max l.most (needed_by_all l.kind l.procedures (drop l.procedure-index l.procedures))
