-- A loop over the lines of a text, with their indices.
use Rattle.std.proofs.Common.{◌≡◌, ℕ, zero, suc, ◌+◌, ◌<◌, List, [], ◌∷◌, ◌++◌, length, map, get_or, take, drop, Option, None, Some, option_map, refl, sym, ap, ◌∙◌, arith}
use denote.Ref.{Bor}
use Rattle.std.proofs.Math.Seq.{split_at}
use Rattle.std.proofs.lemmas.List.{length-map}
use Rattle.std.proofs.lemmas.List.FromFn.{get_or-enumerate_from, length-enumerate_from}
use Rattle.std.specs.List.{enumerate_from}
use Rattle.std.specs.Prelude.{MatchOption}

seconds : (k n : ℕ) (ls : List (List ℕ)) → map (λ (p : ℕ × List ℕ). p.1) (take n (enumerate_from k ls)) ≡ take n ls
seconds k zero ls = refl
seconds k (suc n) [] = refl
seconds k (suc n) (l ∷ ls) = ap (λ (x : List (List ℕ)). l ∷ x) (seconds (k + 1) n ls)

lines_of : (items : List (ℕ × Bor (List ℕ))) → map (λ (p : ℕ × List ℕ). p.1) (map (λ (item : ℕ × Bor (List ℕ)). (item.0, item.1.now)) items) ≡ map (λ (item : ℕ × Bor (List ℕ)). item.1.now) items
lines_of [] = refl
lines_of (i ∷ items) = ap (λ (x : List (List ℕ)). i.1.now ∷ x) (lines_of items)

-- a loop over a text's lines is at this line
pub record IsAtLine (ls before : List (List ℕ)) (index : ℕ) (line : List ℕ) : Type 0 where
  pub others : List (List ℕ)
  pub parts : ls ≡ before ++ (line ∷ others)
  pub index_is : index ≡ length before

first_is : (a b : ℕ) (x y : List ℕ) → ◌≡◌ {A = ℕ × List ℕ} (a, x) (b, y) → (a ≡ b) × (x ≡ y)
first_is a b x y e = (ap (λ (p : ℕ × List ℕ). p.0) e, ap (λ (p : ℕ × List ℕ). p.1) e)

pub line_turn : (ls : List (List ℕ)) (items : List (ℕ × Bor (List ℕ))) (index : ℕ) (line : List ℕ) → map (λ (item : ℕ × Bor (List ℕ)). (item.0, item.1.now)) items ≡ take (length items) (enumerate_from 0 ls)
    → length items < length (enumerate_from 0 ls) → ◌≡◌ {A = ℕ × List ℕ} (index, line) (get_or (enumerate_from 0 ls) (length items) (index, line)) → IsAtLine ls (map (λ item. item.1.now) items) index line
line_turn ls items index line e low at =
    let few : length items < length ls = omega (arith, low, length-enumerate_from 0 ls) in
    let here = first_is index (0 + length items) line (get_or ls (length items) line) (at ∙ get_or-enumerate_from 0 ls (length items) (index, line) few) in
    let before : take (length items) ls ≡ map (λ (item : ℕ × Bor (List ℕ)). item.1.now) items = sym (seconds 0 (length items) ls) ∙ ap (map (λ (p : ℕ × List ℕ). p.1)) (sym e) ∙ lines_of items in
    record {
      others = drop (suc (length items)) ls;
      parts = split_at ls (length items) line few ∙ ap (λ (x : List (List ℕ)). x ++ (get_or ls (length items) line ∷ drop (suc (length items)) ls)) before
          ∙ ap (λ (x : List ℕ). map (λ (item : ℕ × Bor (List ℕ)). item.1.now) items ++ (x ∷ drop (suc (length items)) ls)) (sym here.1);
      index_is = here.0 ∙ omega (arith, length-map items (λ (item : ℕ × Bor (List ℕ)). item.1.now));
    }

-- at the end of such a loop all lines have been yielded
pub all_lines : (ls : List (List ℕ)) (items : List (ℕ × Bor (List ℕ))) → map (λ (item : ℕ × Bor (List ℕ)). (item.0, item.1.now)) items ≡ enumerate_from 0 ls → map (λ (item : ℕ × Bor (List ℕ)). item.1.now) items ≡ ls
all_lines ls items e = sym (lines_of items) ∙ ap (map (λ (x : ℕ × List ℕ). x.1)) e ∙ all_seconds 0 ls
  where
    all_seconds : (k : ℕ) (ls : List (List ℕ)) → map (λ (x : ℕ × List ℕ). x.1) (enumerate_from k ls) ≡ ls
    all_seconds k [] = refl
    all_seconds k (l ∷ ls) = ap (λ (x : List (List ℕ)). l ∷ x) (all_seconds (k + 1) ls)

-- the line of a number, if there is one
pub nth_line : (r : Option (Bor (List ℕ))) (found : Option (List ℕ)) → option_map (λ (line : Bor (List ℕ)). line.now) r ≡ found → MatchOption r (found ≡ None) (λ line. found ≡ Some line.now)
nth_line None found e = sym e
nth_line (Some line) found e = sym e
