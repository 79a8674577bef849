use Rattle.tw_pool.proofs.Names.{flat_map, take, written_at, ◌≡◌}
use Rattle.tw_pool.proofs.pending.writes_in.Given as goal

abbrev pub invariant-loop-arg : goal.invariant-loop-arg
invariant-loop-arg l = l.ids.items ≡ flat_map written_at (take l.arg-index l.args)
