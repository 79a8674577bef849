use Rattle.std.proofs.Common.{take}
use Rattle.std.specs.List.{flat_map}
use Rattle.tw_writer.specs.Appended.{IsAppended, piece_text}
use Rattle.tw_writer.proofs.writer.Writer.put_all.Given as goal

abbrev pub invariant-loop-piece : goal.invariant-loop-piece
invariant-loop-piece l = IsAppended l.fn.self l.self (flat_map piece_text (take l.piece-index l.pieces))
