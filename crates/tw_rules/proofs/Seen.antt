-- The entries of a hash map by numbers, seen as a finite map.
use Rattle.tw_rules.proofs.Names.{AllByRecursion, Bool, Equal, FinMap, Greater, IsDistinct, IsPermutation, IsPermutation-cons, IsPermutation-middle, IsPermutation-refl, IsPermutation-sym, IsPermutation-trans, IsSome, Less, List, None, Ordering, Some, [], ap, arith, cond, empty, entries, entries-insert, eq_by_cmp, false, find, from_entries, get, get-entries, get-from_entries, get-insert, get-remove, get-remove_same, inl, inr, insert, insert_other, insert_same, is_eq, is_some, len, len-empty, len-entries, len-insert, length, map, nat_cmp, nat_cmp-IsAntisymmetric, nat_cmp_total, nat_eq, nat_flips, nat_lt, nat_tests, option_map, refl, remove, remove_other, same_map, same_or_apart, subst, sym, true, ℕ, ◌+◌, ◌∙◌, ◌∷◌, ◌≡◌}
use Rattle.std.specs.declared.option.Option.{Option}
use Rattle.std.specs.Map.{keys_of, lookup}
use Rattle.std.specs.FinMap.Entries.{put, by_order}
use Rattle.std.proofs.lemmas.Map.Keys.{IsDistinct-head, IsDistinct-tail}

same_test : (a b : ℕ) → eq_by_cmp nat_cmp a b ≡ nat_eq a b
same_test a b = by (nat_lt a b) (nat_eq a b) refl refl
  where
    by : (l e : Bool) → nat_lt a b ≡ l → nat_eq a b ≡ e → is_eq (cond l Less (cond e Equal Greater)) ≡ e
    by true true h k = grind (arith, nat_tests)
    by true false h k = refl
    by false true h k = refl
    by false false h k = refl

turned_test : (a b : ℕ) → eq_by_cmp nat_cmp a b ≡ nat_eq b a
turned_test a b = same_test a b ∙ nat_flips a b

module _ {V X : Type 0} (f : V → X) where
  abbrev pub shown : List (ℕ × V) → List (ℕ × X)
  shown es = map (λ e. (e.0, f e.1)) es

  abbrev pub seen : List (ℕ × V) → FinMap nat_cmp X
  seen es = from_entries (shown es)

  abbrev pub entry : List (ℕ × V) → ℕ → Option V
  entry es q = lookup (nat_eq q) es

  found : (es : List (ℕ × V)) (q : ℕ) → find nat_cmp q (shown es) ≡ option_map f (entry es q)
  found [] q = refl
  found (e ∷ es) q = by (nat_eq q e.0) (same_test q e.0) (found es q)
    where
      by : (b : Bool) → eq_by_cmp nat_cmp q e.0 ≡ b → find nat_cmp q (shown es) ≡ option_map f (entry es q)
          → cond (eq_by_cmp nat_cmp q e.0) (Some (f e.1)) (find nat_cmp q (shown es)) ≡ option_map f (cond b (Some e.1) (entry es q))
      by true t rest = rw t refl
      by false t rest = rw t rest

  pub get_seen : (es : List (ℕ × V)) (q : ℕ) → get (seen es) q ≡ option_map f (entry es q)
  get_seen es q = get-from_entries nat_cmp_total (shown es) q ∙ found es q

  chosen : (b : Bool) (w o : Option V) → option_map f (cond b w o) ≡ cond b (option_map f w) (option_map f o)
  chosen true w o = refl
  chosen false w o = refl

  -- this entry at the number, else as before
  abbrev pub Updates : ℕ → Option V → List (ℕ × V) → List (ℕ × V) → Type 0
  Updates number w old new = (q : ℕ) → entry new q ≡ cond (nat_eq number q) w (entry old q)

  get_updated : (number : ℕ) (w : Option V) (old new : List (ℕ × V)) → Updates number w old new → (q : ℕ)
      → get (seen new) q ≡ cond (eq_by_cmp nat_cmp q number) (option_map f w) (get (seen old) q)
  get_updated number w old new h q = get_seen new q ∙ ap (option_map f) (h q) ∙ chosen (nat_eq number q) w (entry old q)
      ∙ ap (λ b. cond b (option_map f w) (option_map f (entry old q))) (sym (turned_test q number))
      ∙ ap (cond (eq_by_cmp nat_cmp q number) (option_map f w)) (sym (get_seen old q))

  pub seen_put : (number : ℕ) (w : V) (old new : List (ℕ × V)) → Updates number (Some w) old new → seen new ≡ insert (seen old) number (f w)
  seen_put number w old new h = same_map nat_cmp_total nat_cmp-IsAntisymmetric _ _ (λ q. get_updated number (Some w) old new h q ∙ sym (get-insert nat_cmp_total (seen old) number (f w) q))

  pub seen_gone : (number : ℕ) (old new : List (ℕ × V)) → Updates number None old new → seen new ≡ remove (seen old) number
  seen_gone number old new h = same_map nat_cmp_total nat_cmp-IsAntisymmetric _ _ (λ q. get_updated number None old new h q ∙ sym (get-remove nat_cmp_total (seen old) number q))

  pub seen_same : (old new : List (ℕ × V)) → ((q : ℕ) → entry new q ≡ entry old q) → seen new ≡ seen old
  seen_same old new h = same_map nat_cmp_total nat_cmp-IsAntisymmetric _ _ (λ q. get_seen new q ∙ ap (option_map f) (h q) ∙ sym (get_seen old q))

  none_of : (o : Option V) → option_map f o ≡ None → o ≡ None
  none_of None e = refl
  none_of (Some w) e = cc

  pub no_entry : (es : List (ℕ × V)) (q : ℕ) → get (seen es) q ≡ None → entry es q ≡ None
  no_entry es q e = none_of (entry es q) (sym (get_seen es q) ∙ e)

  absent : (es : List (ℕ × V)) (q : ℕ) → AllByRecursion (λ k. nat_eq q k ≡ false) (keys_of es) → entry es q ≡ None
  absent [] q h = refl
  absent (e ∷ es) q h = rw h.0 (absent es q h.1)

  first_absent : (e : ℕ × V) (es : List (ℕ × V)) → IsDistinct nat_eq (keys_of (e ∷ es)) → get (seen es) e.0 ≡ None
  first_absent e es h = get_seen es e.0 ∙ ap (option_map f) (absent es e.0 (IsDistinct-head nat_eq e.0 (keys_of es) h))

  pub seen_len : (es : List (ℕ × V)) → IsDistinct nat_eq (keys_of es) → len (seen es) ≡ length es
  seen_len [] h = len-empty nat_cmp X
  seen_len (e ∷ es) h =
      let none = first_absent e es h in
      let rest : len (seen es) ≡ length es = seen_len es (IsDistinct-tail nat_eq e.0 (keys_of es) h) in
      len-insert nat_cmp_total (seen es) e.0 (f e.1) ∙ ap (λ o. cond (is_some o) (len (seen es)) (len (seen es) + 1)) none ∙ omega arith

  some_same : (o : Option V) → is_some (option_map f o) ≡ is_some o
  some_same None = refl
  some_same (Some w) = refl

  pub is_some_seen : (es : List (ℕ × V)) (q : ℕ) → is_some (entry es q) ≡ is_some (get (seen es) q)
  is_some_seen es q = sym (ap is_some (get_seen es q) ∙ some_same (entry es q))

  pub some_seen : (es : List (ℕ × V)) (q : ℕ) → entry es q ≡ None → IsSome (get (seen es) q) → ⊥
  some_seen es q none some = let h : IsSome (option_map f (entry es q)) = subst IsSome (get_seen es q) some in by (entry es q) none h
    where
      by : (o : Option V) → o ≡ None → IsSome (option_map f o) → ⊥
      by None e h = cc
      by (Some w) e h = cc

-- ---- a finite map without one of its entries

module _ {X : Type 0} where
  -- a new entry is the first in some order
  put_first : (k : ℕ) (v : X) (es : List (ℕ × X)) → find nat_cmp k es ≡ None → IsPermutation ((k, v) ∷ es) (put nat_cmp k v es)
  put_first k v [] e = IsPermutation-refl ((k, v) ∷ [])
  put_first k v (x ∷ es) e = by (nat_cmp k x.0) e (put_first k v es)
    where
      by : (o : Ordering) → cond (is_eq o) (Some x.1) (find nat_cmp k es) ≡ None → (find nat_cmp k es ≡ None → IsPermutation ((k, v) ∷ es) (put nat_cmp k v es))
          → IsPermutation ((k, v) ∷ x ∷ es) (by_order o ((k, v) ∷ x ∷ es) ((x.0, v) ∷ es) (x ∷ put nat_cmp k v es))
      by Less e rest = IsPermutation-refl ((k, v) ∷ x ∷ es)
      by Equal e rest = cc
      by Greater e rest = IsPermutation-trans _ _ _ (IsPermutation-sym _ _ (IsPermutation-middle (x ∷ []) (k, v) es)) (IsPermutation-cons x _ _ (rest e))

  module _ (m : FinMap nat_cmp X) (n : ℕ) (x : X) (there : get m n ≡ Some x) where
    put_back : insert (remove m n) n x ≡ m
    put_back = same_map nat_cmp_total nat_cmp-IsAntisymmetric _ _ (λ q. elim (same_or_apart q n) [
      | inl same ↦ subst (λ k. get (insert (remove m n) n x) k ≡ get m k) (sym same) (insert_same nat_cmp nat_cmp_total (remove m n) n x ∙ sym there)
      | inr apart ↦ insert_other nat_cmp nat_cmp_total nat_cmp-IsAntisymmetric (remove m n) n x q apart ∙ remove_other nat_cmp nat_cmp_total nat_cmp-IsAntisymmetric m n q apart
    ])

    -- it is the first in some order
    pub entry_out : IsPermutation (entries m) ((n, x) ∷ entries (remove m n))
    entry_out =
        let gone : find nat_cmp n (entries (remove m n)) ≡ None = sym (get-entries (remove m n) n) ∙ get-remove_same nat_cmp nat_cmp_total m n in
        subst (λ k. IsPermutation (entries k) ((n, x) ∷ entries (remove m n))) put_back
        (subst (λ es. IsPermutation es ((n, x) ∷ entries (remove m n))) (sym (entries-insert nat_cmp_total (remove m n) n x)) (IsPermutation-sym _ _ (put_first n x (entries (remove m n)) gone)))

  no_items : (xs : List (ℕ × X)) → length xs ≡ 0 → xs ≡ []
  no_items [] e = refl
  no_items (x ∷ xs) e = absurd (omega arith)

  pub no_entries : entries (empty {X = X} {R = nat_cmp}) ≡ []
  no_entries = no_items _ (sym (len-entries (empty {X = X} {R = nat_cmp})) ∙ len-empty nat_cmp X)
