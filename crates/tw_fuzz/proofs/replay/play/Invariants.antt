use Rattle.std.proofs.Common.{◌+◌, ◌*◌}
use Rattle.tw_code.specs.machine.Bounds.{AreBelow, opening_bound}
use Rattle.tw_fuzz.proofs.replay.play.Given as goal

-- each event makes numbers and counts larger by at most its size
abbrev pub invariant-loop-index : goal.invariant-loop-index
invariant-loop-index l = AreBelow (opening_bound + 1000000000 * l.index) l.plain.state
