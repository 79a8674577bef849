use Rattle.tw_report.proofs.Names.{Some, get, if◌then◌else◌, is_among, nat_cmp, take, ℕ, ◌≡◌}
use Rattle.tw_report.proofs.walk.put_writer.Given as goal

abbrev pub invariant-loop-datum : goal.invariant-loop-datum
invariant-loop-datum l = (n : ℕ) → get nat_cmp l.found n ≡ (if is_among n (take l.datum-index l.ids) then Some l.index else get nat_cmp l.fn.found n)
