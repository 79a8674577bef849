use Rattle.tw_verify.proofs.VerifierNames.{DepthsTo, depth_of, flows, ◌≡◌, ◌≤◌}
use Rattle.tw_verify.proofs.loops.all_depths.Given as goal

abbrev pub invariant-loop-place : goal.invariant-loop-place
invariant-loop-place l = record { known : DepthsTo (flows l.code) l.depths.items l.place; depth : l.depth ≡ depth_of (flows l.code) l.place; shallow : l.depth ≤ l.place }
