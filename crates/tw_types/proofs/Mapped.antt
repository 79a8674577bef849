-- Look-ups in a finite map whose values are replaced.
use Rattle.std.proofs.Common.{◌≡◌, ℕ, zero, suc, Bool, true, false, cond, T, List, [], ◌∷◌, Option, Some, None, refl, sym, ap, ◌∙◌, map as each, length, slice_get, option_map}
use Rattle.std.specs.declared.cmp.Ordering.{Ordering}
use Rattle.std.specs.Ordering.{eq_by_cmp}
use Rattle.std.specs.Cmp.{IsTotalOrder}
use Rattle.std.specs.FinMap as map
use Rattle.std.specs.FinMap.{FinMap, IsAntisymmetric, find, is_sorted, entries, entries_sorted, entries-from_sorted, get-entries, get-insert, get-remove, len-entries, len-empty, same_entries_map, same_map, empty_of_len}
use Rattle.std.specs.FinMap.Entries.{below_all}
use Rattle.std.proofs.lemmas.List.{length-map}
use Rattle.tw_types.proofs.Rising.{first, second, both}
use Rattle.tw_types.specs.Mapped.{entry_by, mapped}

either : {X Y : Type 0} (f : X → Y) (b : Bool) (x : X) (r : Option X) → cond b (Some (f x)) (option_map f r) ≡ option_map f (cond b (Some x) r)
either f true x r = refl
either f false x r = refl

neither : {X Y : Type 0} (f : X → Y) (b : Bool) (r : Option X) → cond b None (option_map f r) ≡ option_map f (cond b None r)
neither f true r = refl
neither f false r = refl

values_each : {K X Y : Type 0} (f : X → Y) (es : List (K × X)) → each (λ e. e.1) (each (entry_by f) es) ≡ each f (each (λ e. e.1) es)
values_each f [] = refl
values_each f (e ∷ es) = ap (λ xs. f e.1 ∷ xs) (values_each f es)

nth_each : {K X Y : Type 0} (f : X → Y) (es : List (K × X)) (i : ℕ) → slice_get (each (entry_by f) es) i ≡ option_map (entry_by f) (slice_get es i)
nth_each f [] i = refl
nth_each f (e ∷ es) zero = refl
nth_each f (e ∷ es) (suc i) = nth_each f es i

module _ {K X Y : Type 0} (R : K → K → Ordering) (f : X → Y) where
  below_each : (k : K) (es : List (K × X)) → T (below_all R k es) → T (below_all R k (each (entry_by f) es))
  below_each k [] h = tt
  below_each k (e ∷ es) h = both _ _ (first _ _ h) (below_each k es (second _ _ h))

  sorted_each : (es : List (K × X)) → T (is_sorted R es) → T (is_sorted R (each (entry_by f) es))
  sorted_each [] h = tt
  sorted_each (e ∷ es) h = both _ _ (below_each e.0 es (first _ _ h)) (sorted_each es (second _ _ h))

  find_each : (q : K) (es : List (K × X)) → find R q (each (entry_by f) es) ≡ option_map f (find R q es)
  find_each q [] = refl
  find_each q (e ∷ es) = ap (cond (eq_by_cmp R q e.0) (Some (f e.1))) (find_each q es) ∙ either f (eq_by_cmp R q e.0) e.1 (find R q es)

module _ {K X Y : Type 0} {R : K → K → Ordering} (f : X → Y) where
  pub entries_mapped : (m : FinMap R X) → entries (mapped f m) ≡ each (entry_by f) (entries m)
  unfolding mapped
  entries_mapped m = entries-from_sorted R (each (entry_by f) (entries m)) (sorted_each R f (entries m) (entries_sorted m))

  pub get_mapped : (m : FinMap R X) (q : K) → map.get (mapped f m) q ≡ option_map f (map.get m q)
  get_mapped m q = get-entries (mapped f m) q ∙ ap (find R q) (entries_mapped m) ∙ find_each R f q (entries m) ∙ ap (option_map f) (sym (get-entries m q))

  pub len_mapped : (m : FinMap R X) → map.len (mapped f m) ≡ map.len m
  len_mapped m = len-entries (mapped f m) ∙ ap length (entries_mapped m) ∙ length-map (entries m) (entry_by f) ∙ sym (len-entries m)

  pub empty_mapped : mapped f (map.empty {X = X} {R = R}) ≡ map.empty
  empty_mapped = empty_of_len _ (len_mapped map.empty ∙ len-empty R X)

  pub values_mapped : (m : FinMap R X) → map.values (mapped f m) ≡ each f (map.values m)
  values_mapped m = ap (each (λ e. e.1)) (entries_mapped m) ∙ values_each f (entries m)

  pub nth_mapped : (m : FinMap R X) (i : ℕ) → slice_get (entries (mapped f m)) i ≡ option_map (entry_by f) (slice_get (entries m) i)
  nth_mapped m i = ap (λ es. slice_get es i) (entries_mapped m) ∙ nth_each f (entries m) i

  module _ (o : IsTotalOrder R) (same : IsAntisymmetric R) where
    pub insert_mapped : (m : FinMap R X) (k : K) (x : X) → mapped f (map.insert m k x) ≡ map.insert (mapped f m) k (f x)
    insert_mapped m k x = same_map o same _ _ (λ q. get_mapped (map.insert m k x) q
        ∙ ap (option_map f) (get-insert o m k x q)
        ∙ sym (either f (eq_by_cmp R q k) x (map.get m q))
        ∙ ap (cond (eq_by_cmp R q k) (Some (f x))) (sym (get_mapped m q))
        ∙ sym (get-insert o (mapped f m) k (f x) q))

    pub remove_mapped : (m : FinMap R X) (k : K) → mapped f (map.remove m k) ≡ map.remove (mapped f m) k
    remove_mapped m k = same_map o same _ _ (λ q. get_mapped (map.remove m k) q
        ∙ ap (option_map f) (get-remove o m k q)
        ∙ sym (neither f (eq_by_cmp R q k) (map.get m q))
        ∙ ap (cond (eq_by_cmp R q k) None) (sym (get_mapped m q))
        ∙ sym (get-remove o (mapped f m) k q))

-- ---- replacing each value by itself

pub each_same : {X : Type 0} (xs : List X) → each (λ x. x) xs ≡ xs
each_same [] = refl
each_same (x ∷ xs) = ap (λ ys. x ∷ ys) (each_same xs)

entries_same : {K X : Type 0} (es : List (K × X)) → each (entry_by (λ x. x)) es ≡ es
entries_same [] = refl
entries_same (e ∷ es) = ap (λ fs. e ∷ fs) (entries_same es)

pub mapped_same : {K X : Type 0} {R : K → K → Ordering} (m : FinMap R X) → mapped (λ x. x) m ≡ m
mapped_same m = same_entries_map _ _ (entries_mapped (λ x. x) m ∙ entries_same (entries m))
