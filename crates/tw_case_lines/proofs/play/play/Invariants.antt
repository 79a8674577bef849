use Rattle.std.proofs.Common.{◌+◌, ◌*◌}
use Rattle.tw_code.specs.machine.Bounds.{AreBelow, opening_bound}
use Rattle.tw_case_lines.proofs.play.play.Given as goal

-- each event increases numbers and counts by at most its size
abbrev pub invariant-loop-event : goal.invariant-loop-event
invariant-loop-event l = AreBelow (opening_bound + 1000000000 * l.event-index) l.plain.state
