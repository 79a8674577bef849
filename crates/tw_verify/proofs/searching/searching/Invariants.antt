use Rattle.tw_verify.proofs.VerifierNames.{drop, searching, ◌+◌, ◌≡◌, ◌≤◌}
use Rattle.tw_verify.proofs.searching.searching.Given as goal

-- those so far, and of those that are left
abbrev pub invariant-loop-procedure : goal.invariant-loop-procedure
invariant-loop-procedure l = record {
  counted : searching l.procedures ≡ l.count + searching (drop l.procedure-index l.procedures);
  few : l.count ≤ l.procedure-index;
}
