use Rattle.std.proofs.Common.{◌≡◌, ℕ, ◌<◌, None}
use Rattle.tw_verify.proofs.VerifierNames.{flows, structure_rejection_at}
use Rattle.tw_verify.proofs.structure.ask_structure.Given as goal

-- no place so far is refused
abbrev pub invariant-loop-place : goal.invariant-loop-place
invariant-loop-place l = (k : ℕ) → k < l.place → structure_rejection_at (flows l.code) k ≡ None
