-- Lists of members that are read one after another.
use Rattle.tw_handles.proofs.Names.{AreTexts, AreTextsTo, IsTextAt, IsWhy, List, [], ap, arith, cases_lt, inl, inr, length, map, range_with_len, subst, sym, ℕ, ◌++◌, ◌+◌, ◌<◌, ◌∙◌, ◌∷◌, ◌≡◌, ◌≤◌, ◌⊎◌}
use Rattle.std.proofs.lemmas.List.FromFn.{map-range_with_len_more}

-- one more
pub listed_more : {X : Type 0} (f : ℕ → X) (before after : List X) (k : ℕ) (x : X) → before ≡ map f (range_with_len 0 k) → after ≡ before ++ x ∷ [] → x ≡ f k → after ≡ map f (range_with_len 0 (k + 1))
listed_more f before after k x are pushed is =
    pushed ∙ (ap (λ ys. ys ++ x ∷ []) are ∙ (ap (λ y. map f (range_with_len 0 k) ++ y ∷ []) is ∙ sym (map-range_with_len_more f 0 k k (omega arith))))

pub texts_more : (bytes ends : List ℕ) (k : ℕ) → AreTextsTo bytes ends k → IsTextAt bytes ends k → AreTextsTo bytes ends (k + 1)
texts_more bytes ends k before here j below = cases (cases_lt j k)
  where
    cases : (j < k) ⊎ (k ≤ j) → IsTextAt bytes ends j
    cases (inl earlier) = before j earlier
    cases (inr later) = let same : k ≡ j = omega arith in subst (λ (n : ℕ). IsTextAt bytes ends n) same here

-- a text that is none is one of all
pub why_all : (bytes ends : List ℕ) (k code : ℕ) → k < length ends → IsWhy (IsTextAt bytes ends k) code → IsWhy (AreTexts bytes ends) code
why_all bytes ends k code below (inl h) = inl ((λ all. h.0 (all.0 k below)), h.1)
why_all bytes ends k code below (inr h) = inr h
