-- Entries whose keys rise, around one of them with the key k.
use Rattle.std.proofs.Common.{[], ◌≡◌, cond, T, List, ◌∷◌, ◌++◌, refl, sym, ap, subst, ◌∙◌}
use Rattle.std.specs.declared.cmp.Ordering.{Ordering}
use Rattle.std.specs.declared.cmp.Ordering.TheVariants.{Less, Equal, Greater}
use Rattle.std.specs.declared.option.Option.TheVariants.{Some}
use Rattle.std.specs.Ordering.{is_eq, is_lt, eq_by_cmp, ordering_reverse}
use Rattle.std.specs.Cmp.{IsTotalOrder}
use Rattle.std.specs.FinMap.{find, put, is_sorted}
use Rattle.std.specs.FinMap.Entries.{below_all, by_order}
use Rattle.tw_types.proofs.Rising.{first, second, both, less, find_below, below_less}

turned : (r : Ordering) → ordering_reverse r ≡ Less → r ≡ Greater
turned Less e = absurd (subst (λ o. T (is_lt o)) (sym e) tt)
turned Equal e = absurd (subst (λ o. T (is_lt o)) (sym e) tt)
turned Greater e = refl

module _ {K : Type 0} {R : K → K → Ordering} (o : IsTotalOrder R) where
  -- a key that x is below
  above : (x y : K) → R x y ≡ Less → R y x ≡ Greater
  above x y p = turned (R y x) (sym (o.antisymm x y) ∙ p)

  -- q is above k, and x is below k
  far_above : (q k x : K) → R q k ≡ Greater → R x k ≡ Less → R q x ≡ Greater
  far_above q k x g p = above x q (o.trans x k q p (o.antisymm k q ∙ ap ordering_reverse g))

  -- q is k, and x is below k
  tied_above : (q k x : K) → R q k ≡ Equal → R x k ≡ Less → R q x ≡ Greater
  tied_above q k x t p = o.congr q k x t ∙ above x k p

module _ {K X : Type 0} {R : K → K → Ordering} (o : IsTotalOrder R) where
  below_front : (x : K) (l m : List (K × X)) → T (below_all R x (l ++ m)) → T (below_all R x l)
  below_front x [] m h = tt
  below_front x (e ∷ l) m h = both _ _ (first _ _ h) (below_front x l m (second _ _ h))

  below_middle : (x : K) (l : List (K × X)) (e : K × X) (m : List (K × X)) → T (below_all R x (l ++ e ∷ m)) → R x e.0 ≡ Less
  below_middle x [] e m h = less _ (first _ _ h)
  below_middle x (f ∷ l) e m h = below_middle x l e m (second _ _ h)

  pub sorted_front : (l m : List (K × X)) → T (is_sorted R (l ++ m)) → T (is_sorted R l)
  sorted_front [] m h = tt
  sorted_front (e ∷ l) m h = both _ _ (below_front e.0 l m (first _ _ h)) (sorted_front l m (second _ _ h))

  pub sorted_back : (l : List (K × X)) (e : K × X) (m : List (K × X)) → T (is_sorted R (l ++ e ∷ m)) → T (is_sorted R m)
  sorted_back [] e m h = second _ _ h
  sorted_back (f ∷ l) e m h = sorted_back l e m (second _ _ h)

  -- look-ups on the two sides of an entry

  pub find_left : (q : K) (l : List (K × X)) (e : K × X) (r : List (K × X)) → R q e.0 ≡ Less → T (is_sorted R (l ++ e ∷ r)) → find R q (l ++ e ∷ r) ≡ find R q l
  find_left q [] e r p h = find_below R q (e ∷ r) (both _ _ (subst (λ o. T (is_lt o)) (sym p) tt) (below_less R o q e.0 r p (first _ _ h)))
  find_left q (f ∷ l) e r p h = ap (cond (eq_by_cmp R q f.0) (Some f.1)) (find_left q l e r p (second _ _ h))

  pub find_right : (q : K) (l : List (K × X)) (e : K × X) (r : List (K × X)) → R q e.0 ≡ Greater → T (is_sorted R (l ++ e ∷ r)) → find R q (l ++ e ∷ r) ≡ find R q r
  find_right q [] e r p h = ap (λ o. cond (is_eq o) (Some e.1) (find R q r)) p
  find_right q (f ∷ l) e r p h = ap (λ o. cond (is_eq o) (Some f.1) (find R q (l ++ e ∷ r))) (far_above o q e.0 f.0 p (below_middle f.0 l e r (first _ _ h))) ∙ find_right q l e r p (second _ _ h)

  pub find_here : (q : K) (l : List (K × X)) (e : K × X) (r : List (K × X)) → R q e.0 ≡ Equal → T (is_sorted R (l ++ e ∷ r)) → find R q (l ++ e ∷ r) ≡ Some e.1
  find_here q [] e r p h = ap (λ o. cond (is_eq o) (Some e.1) (find R q r)) p
  find_here q (f ∷ l) e r p h = ap (λ o. cond (is_eq o) (Some f.1) (find R q (l ++ e ∷ r))) (tied_above o q e.0 f.0 p (below_middle f.0 l e r (first _ _ h))) ∙ find_here q l e r p (second _ _ h)

  -- insertions on the two sides of an entry

  over : (q : K) (v : X) (e : K × X) (es : List (K × X)) (r : Ordering) → R q e.0 ≡ r → put R q v (e ∷ es) ≡ by_order r ((q, v) ∷ e ∷ es) ((e.0, v) ∷ es) (e ∷ put R q v es)
  over q v e es r p = ap (λ o. by_order o ((q, v) ∷ e ∷ es) ((e.0, v) ∷ es) (e ∷ put R q v es)) p

  by_order_append : (c : Ordering) (q : K) (v : X) (f : K × X) (l m u w : List (K × X)) → w ≡ u ++ m → by_order c ((q, v) ∷ f ∷ (l ++ m)) ((f.0, v) ∷ (l ++ m)) (f ∷ w) ≡ by_order c ((q, v) ∷ f ∷ l) ((f.0, v) ∷ l) (f ∷ u) ++ m
  by_order_append Less q v f l m u w e = refl
  by_order_append Equal q v f l m u w e = refl
  by_order_append Greater q v f l m u w e = ap (λ z. f ∷ z) e

  pub put_left : (q : K) (v : X) (l : List (K × X)) (e : K × X) (r : List (K × X)) → R q e.0 ≡ Less → put R q v (l ++ e ∷ r) ≡ put R q v l ++ e ∷ r
  put_left q v [] e r p = over q v e r Less p
  put_left q v (f ∷ l) e r p = by_order_append (R q f.0) q v f l (e ∷ r) (put R q v l) _ (put_left q v l e r p)

  pub put_right : (q : K) (v : X) (l : List (K × X)) (e : K × X) (r : List (K × X)) → R q e.0 ≡ Greater → T (is_sorted R (l ++ e ∷ r)) → put R q v (l ++ e ∷ r) ≡ l ++ e ∷ put R q v r
  put_right q v [] e r p h = over q v e r Greater p
  put_right q v (f ∷ l) e r p h = over q v f (l ++ e ∷ r) Greater (far_above o q e.0 f.0 p (below_middle f.0 l e r (first _ _ h))) ∙ ap (λ z. f ∷ z) (put_right q v l e r p (second _ _ h))

  pub put_here : (q : K) (v : X) (l : List (K × X)) (e : K × X) (r : List (K × X)) → R q e.0 ≡ Equal → T (is_sorted R (l ++ e ∷ r)) → put R q v (l ++ e ∷ r) ≡ l ++ (e.0, v) ∷ r
  put_here q v [] e r p h = over q v e r Equal p
  put_here q v (f ∷ l) e r p h = over q v f (l ++ e ∷ r) Greater (tied_above o q e.0 f.0 p (below_middle f.0 l e r (first _ _ h))) ∙ ap (λ z. f ∷ z) (put_here q v l e r p (second _ _ h))
