-- The rest of a line in UTF-8 is UTF-8.
use Rattle.std.proofs.Common.{◌≡◌, ℕ, suc, ◌-◌, ◌<◌, ◌≤◌, true, List, [], ◌∷◌, ◌++◌, length, get_or, take, drop, sym, ap, subst, ◌∙◌, append_assoc, arith}
use Rattle.std.specs.Prelude.{IsUtf8}
use Rattle.std.proofs.lemmas.Bool.Decides.{nat_tests}
use Rattle.std.proofs.lemmas.List.{take_all}
use Rattle.std.proofs.lemmas.Str.{IsUtf8-append, IsUtf8-nil}
use Rattle.tw_lexer.proofs.Utf8.{cut_rest, one_ascii}
use Rattle.tw_lexer.specs.Words.{IsAtEdge, IsFirstWord, Word, is_edge, is_parting}

pub edge_small : (b : ℕ) → is_edge b ≡ true → b < 128
edge_small b e = grind (arith, nat_tests)

pub parting_small : (b : ℕ) → is_parting b ≡ true → b < 128
parting_small b e = grind (arith, nat_tests)

at_edge_utf8 : (front rest : List ℕ) → IsAtEdge rest → IsUtf8 (front ++ rest) → IsUtf8 rest
at_edge_utf8 front [] e u = IsUtf8-nil
at_edge_utf8 front (b ∷ rest) e u = IsUtf8-append (b ∷ []) rest (one_ascii b (edge_small b e)) (cut_rest front b rest (edge_small b e) u)

pub rest_utf8 : (word : Word) (bytes rest : List ℕ) → IsFirstWord word bytes rest → IsUtf8 bytes → IsUtf8 rest
rest_utf8 word bytes rest f u = at_edge_utf8 (f.gap ++ f.text) rest f.edge (subst IsUtf8 (f.parts ∙ sym (append_assoc f.gap f.text rest)) u)

-- the rest after the first byte, as a slice pattern returns it
pub slice_tail : {A : Type 0} (x : A) (rest : List A) → take (length (x ∷ rest) - 1) (drop 1 (x ∷ rest)) ≡ rest
slice_tail x rest =
    let e : suc (length rest) - 1 ≡ length rest = omega arith in
    ap (λ (n : ℕ). take n rest) e ∙ take_all (length rest) rest (omega arith)

pub tail_utf8 : (bytes : List ℕ) → 1 ≤ length bytes → is_parting (get_or bytes 0 0) ≡ true → IsUtf8 bytes → IsUtf8 (take (length bytes - 1) (drop 1 bytes))
tail_utf8 [] l p u = absurd (omega (arith, l))
tail_utf8 (b ∷ rest) l p u = subst IsUtf8 (sym (slice_tail b rest)) (cut_rest [] b rest (parting_small b p) u)
