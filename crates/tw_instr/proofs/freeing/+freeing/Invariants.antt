use Rattle.tw_instr.proofs.Names.{data_of, drop, drop_read_within, fold, ◌*◌, ◌+◌, ◌≡◌}
use Rattle.std.specs.FinMap as map
use Rattle.tw_instr.proofs.freeing.+freeing.Given as goal

abbrev pub decreases-drop_each : goal.decreases-drop_each
decreases-drop_each l = 2 * l.depth + 1

abbrev pub decreases-drop_read_within : goal.decreases-drop_read_within
decreases-drop_read_within l = 2 * l.depth

abbrev pub invariant-drop_each-loop-index : goal.invariant-drop_each-loop-index
invariant-drop_each-loop-index l = fold (drop_read_within l.depth) (data_of l.live.entries) (drop l.index (map.values l.fn.members))
    ≡ fold (drop_read_within l.depth) (data_of l.fn.live.entries) (map.values l.fn.members)
