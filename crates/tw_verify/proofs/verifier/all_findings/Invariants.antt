use Rattle.tw_verify.specs.Verified.{AreTyped}
use Rattle.tw_verify.proofs.verifier.all_findings.Given as goal

-- the procedures so far are accepted
abbrev pub invariant-loop-number : goal.invariant-loop-number
invariant-loop-number l = AreTyped l.procedures l.all.items l.number
