-- The line `names`.
use Rattle.std.proofs.Common.{[], ◌≡◌, ℕ, Bool, true, false, List, ◌∷◌, ◌++◌, Option, Some, None, refl, sym, ap, subst, ◌∙◌, inl, inr, append-nil, arith}
use Rattle.tw_symbols.proofs.TextNames.{AreWords, Bare, Broken, HasNames, IsBare, IsTail, IsTaken, Line, Worded, bytes_eq, bytes_eq-Decides, codes, is_names_line, line_words, named_by, ◌&&◌}
use Rattle.tw_symbols.proofs.Taking.{not_both_ways, words_once}
use Rattle.tw_symbols.proofs.Walk.{not_blank}

none_some : {Z : Type 0} (b : Bool) → ◌≡◌ {A = Option Bool} None (Some b) → Z
none_some b e = absurd cc

some_none : {Z : Type 0} (b : Bool) → ◌≡◌ {A = Option Bool} (Some b) None → Z
some_none b e = absurd cc

some_is : (a b : Bool) → ◌≡◌ {A = Option Bool} (Some a) (Some b) → a ≡ b
some_is a b e = cc

differ : {Z : Type 0} → false ≡ true → Z
differ e = absurd cc

and_left : (x y : Bool) → (x && y) ≡ true → x ≡ true
and_left true y e = refl
and_left false y e = differ e

and_right : (x y : Bool) → (x && y) ≡ true → y ≡ true
and_right true y e = e
and_right false y e = differ e

-- something that isn't a word isn't `names`
tail_other : (tail bytes : List ℕ) → IsTail tail bytes → is_names_line tail [] ≡ true → ⊥
tail_other tail bytes is e = no ((bytes_eq-Decides tail (codes "names")).0 (and_left (bytes_eq tail (codes "names")) true e))
  where
    bare : IsBare (codes "names")
    bare = ((λ e. omega (arith, e)), (refl, (refl, (refl, (refl, (refl, tt))))))

    no : tail ≡ codes "names" → ⊥
    no same = is.broken.1 (Bare (codes "names")) [] (record { gap = is.gap; text = codes "names"; parts = is.parts ∙ ap (λ (t : List ℕ). is.gap ++ t) (same ∙ sym (append-nil (codes "names"))); is_gap = is.is_gap; is_word = (bare, refl); edge = tt })

tail_named : (ws : List (List ℕ)) (tail bytes : List ℕ) → IsTail tail bytes → named_by (ws ++ tail ∷ []) ≡ Some false
tail_named [] tail bytes is = by (is_names_line tail []) refl
  where
    by : (t : Bool) → is_names_line tail [] ≡ t → Some (is_names_line tail []) ≡ Some false
    by true e = absurd (tail_other tail bytes is e)
    by false e = ap Some e
tail_named (w ∷ []) tail bytes is = ap Some (and_none (bytes_eq w (codes "names")))
  where
    and_none : (x : Bool) → (x && false) ≡ false
    and_none true = refl
    and_none false = refl
tail_named (w ∷ v ∷ ws) tail bytes is = ap Some (and_none (bytes_eq w (codes "names")))
  where
    and_none : (x : Bool) → (x && false) ≡ false
    and_none true = refl
    and_none false = refl

pub blank_line : (t : Line) (line : List ℕ) → IsTaken t line → named_by (line_words t) ≡ None → (rest : List ℕ) × AreWords [] line rest
blank_line (Worded [] rest) line is e = (rest, is)
blank_line (Worded (w ∷ ws) rest) line is e = some_none (is_names_line w ws) e
blank_line (Broken ws tail) line (after, _, is) e = some_none false (sym (tail_named ws tail after is) ∙ e)

pub named_true : (t : Line) (line : List ℕ) (others : List (List ℕ)) → IsTaken t line → named_by (line_words t) ≡ Some true → HasNames (line ∷ others)
named_true (Worded [] rest) line others is e = none_some true e
named_true (Worded (w ∷ []) rest) line others is e =
    let same : w ≡ codes "names" = (bytes_eq-Decides w (codes "names")).0 (and_left (bytes_eq w (codes "names")) true (some_is (is_names_line w []) true e)) in
    inl (rest, subst (λ (x : List ℕ). AreWords (x ∷ []) line rest) same is)
named_true (Worded (w ∷ v ∷ ws) rest) line others is e = differ (and_right (bytes_eq w (codes "names")) false (some_is (is_names_line w (v ∷ ws)) true e))
named_true (Broken ws tail) line others (after, _, is) e = differ (some_is false true (sym (tail_named ws tail after is) ∙ e))

is_named_line : (w : List ℕ) (ws : List (List ℕ)) → w ∷ ws ≡ codes "names" ∷ [] → is_names_line w ws ≡ true
is_named_line w [] e = first w (heads w e)
  where
    heads : (w : List ℕ) → w ∷ [] ≡ codes "names" ∷ [] → w ≡ codes "names"
    heads w e = cc

    first : (w : List ℕ) → w ≡ codes "names" → is_names_line w [] ≡ true
    first w same = subst (λ (x : List ℕ). is_names_line x [] ≡ true) (sym same) refl
is_named_line w (v ∷ ws) e = absurd (longer w v ws e)
  where
    longer : (w v : List ℕ) (ws : List (List ℕ)) → w ∷ v ∷ ws ≡ codes "names" ∷ [] → ⊥
    longer w v ws e = cc

pub named_false : (t : Line) (line : List ℕ) (others : List (List ℕ)) → IsTaken t line → named_by (line_words t) ≡ Some false → HasNames (line ∷ others) → ⊥
named_false (Worded [] rest) line others is e has = none_some false e
named_false (Worded (w ∷ ws) rest) line others is e (inl (r, names)) =
    differ (sym (some_is (is_names_line w ws) false e) ∙ is_named_line w ws ((words_once (w ∷ ws) (codes "names" ∷ []) line rest r is names).0))
named_false (Worded (w ∷ ws) rest) line others is e (inr (blank, _)) = not_blank ws w line rest is blank
named_false (Broken ws tail) line others is e (inl (r, names)) = not_both_ways (codes "names" ∷ []) ws line r tail names is
named_false (Broken ws tail) line others is e (inr ((r, blank), _)) = not_both_ways [] ws line r tail blank is
