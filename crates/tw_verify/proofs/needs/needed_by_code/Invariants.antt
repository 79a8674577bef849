use Rattle.tw_verify.proofs.VerifierNames.{drop, max, needed_by_code, ◌≡◌}
use Rattle.tw_verify.proofs.needs.needed_by_code.Given as goal

-- the most so far, and of those that are left
abbrev pub invariant-loop-instr : goal.invariant-loop-instr
invariant-loop-instr l = needed_by_code l.kind l.procedures l.code ≡ max l.most (needed_by_code l.kind l.procedures (drop l.instr-index l.code))
