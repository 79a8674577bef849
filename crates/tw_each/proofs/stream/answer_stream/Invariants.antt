use Rattle.tw_each.proofs.Names.{length, way, ◌<◌}
use Rattle.tw_each.proofs.Chunks.{IsAsFar}
use Rattle.tw_each.proofs.stream.answer_stream.Given as goal

-- the lines that ended in what was read are answered
abbrev pub invariant-loop : goal.invariant-loop
invariant-loop g l =
    (0 < length l.chunk.items)
    × IsAsFar (way l.crew.run.now) l.answered l.begun.items (g.R.Read.remaining l.fn.reader) (g.R.Read.remaining l.reader) (g.W.Write.contents l.fn.writer) (g.W.Write.contents l.writer)
