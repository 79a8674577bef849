-- Pieces that are appended one after another.
use Rattle.std.proofs.Common.{Err, Global, IfOk, Ok, Result, Vec, false, ◌≡◌, ◌<◌, ◌≤◌, ◌+◌, ◌∙◌, ◌++◌, ◌∷◌, ℕ, List, [], ap, append_assoc, get_or, length, refl, subst, sym, take}
use Rattle.std.proofs.lemmas.List.{append-nil, flat_map_more, take_all, take_more}
use Rattle.std.specs.List.{flat_map}
use Rattle.std.specs.declared.alloc.AllocError.{AllocError}
use Rattle.tw_writer.specs.Appended.{Holds, IsAppended, piece_text, pieces_text}
use Rattle.tw_writer.specs.declared.writer.Piece.{Piece}
use Rattle.tw_writer.specs.declared.writer.Writer.{Writer}

pub none_added : (w : Writer) → IsAppended w w []
none_added w = record {
  fine = λ is. is;
  added = λ is. sym (append-nil w.bytes.items);
}

pub both_added : (a b c : Writer) (first rest : List ℕ) → IsAppended a b first → IsAppended b c rest → IsAppended a c (first ++ rest)
both_added a b c first rest one two = record {
  fine = λ is. one.fine (two.fine is);
  added = λ is. two.added is ∙ ap (λ (t : List ℕ). t ++ rest) (one.added (two.fine is)) ∙ append_assoc a.bytes.items first rest;
}

-- adds bytes that are written in another way
pub same_added : (a b : Writer) (one two : List ℕ) → one ≡ two → IsAppended a b one → IsAppended a b two
same_added a b one two same added = subst (λ (t : List ℕ). IsAppended a b t) same added

-- what a writer holds that was empty
pub from_empty : (a b : Writer) (text : List ℕ) → a.bytes.items ≡ [] → IsAppended a b text → Holds b text
from_empty a b text none added = λ fine. added.added fine ∙ ap (λ (t : List ℕ). t ++ text) none

-- what holds of a writer's bytes if no piece is missing holds of what it returns
pub finished : (result : Result (Vec ℕ Global) AllocError) (w : Writer) (P : List ℕ → Type 0) → IfOk result (λ bytes. bytes ≡ w.bytes) → IfOk result (λ bytes. w.is_short ≡ false) → (w.is_short ≡ false → P w.bytes.items)
    → IfOk result (λ bytes. P bytes.items)
finished (Ok bytes) w P all fine holds = subst P (sym (ap (λ (v : Vec ℕ Global). v.items) all)) (holds fine)
finished (Err e) w P all fine holds = tt

-- ---- loops

module _ {X : Type 0} (text : X → List ℕ) (xs : List X) (i : ℕ) where
  -- adds the text of one more
  pub one_more : (x : X) (a b c : Writer) → i < length xs → x ≡ get_or xs i x → IsAppended a b (flat_map text (take i xs)) → IsAppended b c (text x) → IsAppended a c (flat_map text (take (i + 1) xs))
  one_more x a b c inside is before after =
      same_added a c _ _
      (flat_map_more text [] (take i xs) x ∙ ap (λ (ys : List X). flat_map text ys) (sym (take_more xs i x inside ∙ ap (λ (y : X). take i xs ++ y ∷ []) (sym is))))
      (both_added a b c (flat_map text (take i xs)) (text x) before after)

  -- has added the texts of all
  pub all_of : (a b : Writer) → length xs ≤ i → IsAppended a b (flat_map text (take i xs)) → IsAppended a b (flat_map text xs)
  all_of a b last before = same_added a b _ _ (ap (λ (ys : List X). flat_map text ys) (take_all i xs last)) before

-- ---- lines

pub pieces_are : (ps : List Piece) → flat_map piece_text ps ≡ pieces_text ps
pieces_are [] = refl
pieces_are (p ∷ []) = append-nil (piece_text p)
pieces_are (p ∷ q ∷ others) = ap (λ (t : List ℕ). piece_text p ++ t) (pieces_are (q ∷ others))
