use Rattle.tw_each.proofs.Names.{AreWritten, WorstEnd, length, map, take, way, worse, ◌-◌, ◌≡◌, ◌≤◌}
use Rattle.tw_each.proofs.stream.write_lines.Given as goal

-- the answers to this many lines are written
abbrev pub invariant-loop-done : goal.invariant-loop-done
invariant-loop-done g l =
    (l.done ≤ length l.lines)
    × ((bad : WorstEnd) × (l.worst ≡ (worse l.answered.worst bad))
    × AreWritten (way l.crew.run.now) l.answered.number (map (λ line. line.now) (take l.done l.lines)) (g.W.Write.contents l.fn.writer) (g.W.Write.contents l.writer) bad)

abbrev pub decreases-loop-done : goal.decreases-loop-done
decreases-loop-done g l = length l.lines - l.done
