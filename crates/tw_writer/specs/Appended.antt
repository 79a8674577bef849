-- Pieces that are appended to a writer.
use Rattle.std.specs.Prelude.{◌≡◌, ◌++◌, ◌∷◌, [], ℕ, List, decimal, false, replicate}
use Rattle.tw_writer.specs.declared.writer.Piece.{Piece}
use Rattle.tw_writer.specs.declared.writer.Piece.TheVariants.{Text, Bytes, Number, Spaces}
use Rattle.tw_writer.specs.declared.writer.Writer.{Writer}

-- if all pieces have been appended, all had been before, and these bytes were appended since
pub record IsAppended (before : Writer) (after : Writer) (bytes : List ℕ) : Type 0 where
  pub fine : after.is_short ≡ false → before.is_short ≡ false
  pub added : after.is_short ≡ false → after.bytes.items ≡ before.bytes.items ++ bytes

-- holds for a writer that has these bytes, if all pieces have been appended
abbrev pub Holds : Writer → List ℕ → Type 0
Holds writer bytes = writer.is_short ≡ false → writer.bytes.items ≡ bytes

abbrev pub piece_text : Piece → List ℕ
piece_text (Text text) = text.now
piece_text (Bytes bytes) = bytes.now
piece_text (Number n) = decimal n
piece_text (Spaces n) = replicate n 32

-- returns pieces, one after another
abbrev pub pieces_text : List Piece → List ℕ
pieces_text [] = []
pieces_text (p ∷ []) = piece_text p
pieces_text (p ∷ q ∷ others) = piece_text p ++ pieces_text (q ∷ others)
