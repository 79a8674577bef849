use Rattle.tw_handles.proofs.Names.{AreReadTo, length, shown_of, ◌≡◌}
use Rattle.tw_handles.proofs.many.read_members.Given as goal

-- those before this one are read
abbrev pub invariant-loop-k : goal.invariant-loop-k
invariant-loop-k l = AreReadTo (shown_of l.outcome l.datum.datum.content) l.first l.k l.room × (length l.room ≡ length l.initial.room)
