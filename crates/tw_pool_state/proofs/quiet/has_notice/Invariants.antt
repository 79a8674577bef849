use Rattle.std.proofs.Common.{◌≡◌, ◌<◌, ℕ, [], None, slice_get, slice_index_or}
use Rattle.tw_pool_state.proofs.quiet.has_notice.Given as goal

abbrev pub invariant-loop-server : goal.invariant-loop-server
invariant-loop-server l = (k : ℕ) → k < l.server → slice_get (slice_index_or l.store.queues k []) 0 ≡ None
