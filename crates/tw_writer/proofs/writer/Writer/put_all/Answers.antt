use Rattle.tw_writer.proofs.Pieces.{all_of, pieces_are, same_added}
use Rattle.tw_writer.specs.Appended.{piece_text}
use Rattle.tw_writer.proofs.writer.Writer.put_all.Goals as goal

pub returns : goal.returns
returns c = same_added _ _ _ _ (pieces_are c.args.pieces.now) (all_of piece_text c.args.pieces.now c.loop-piece.piece-index _ _ c.loop-piece-test.false c.loop-piece.invariant)
