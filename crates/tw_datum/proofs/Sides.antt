-- Sorted entries d that are l, then e, then r: look-ups and insertions. The key q is passed on as k.
use Rattle.std.proofs.Common.{◌≡◌, List, ◌∷◌, ◌++◌, T, Result, Ok, Err, OnOk, OnErr, sym, ap, ◌∙◌, subst, Option}
use Rattle.std.specs.declared.cmp.Ordering.TheVariants.{Less, Equal, Greater}
use Rattle.std.specs.declared.option.Option.TheVariants.{Some}
use Rattle.std.specs.FinMap.{find, put, is_sorted}
use Rattle.tw_types.specs.declared.value.Value.{Value}
use Rattle.tw_types.specs.ValueOrder.{value_cmp}
use Rattle.tw_types.proofs.ValueOrder.{value_cmp_total}
use Rattle.tw_datum.proofs.Order.{sorted_front, sorted_back, find_left, find_right, find_here, put_left, put_right, put_here}

pub if_done : {E P Q : Type 0} (done : Result (Unit {0}) E) → (P → Q) → OnOk done P → OnOk done Q
if_done (Ok x) f p = f p
if_done (Err x) f p = p

pub if_refused : {E P Q : Type 0} (done : Result (Unit {0}) E) → (P → Q) → OnErr done P → OnErr done Q
if_refused (Ok x) f p = p
if_refused (Err x) f p = f p

module _ {V : Type 0} (d l : List (Value × V)) (e : Value × V) (r : List (Value × V)) (k q : Value) (key : k ≡ q) (is : d ≡ l ++ e ∷ r) (sorted : T (is_sorted value_cmp d)) where
  here : T (is_sorted value_cmp (l ++ e ∷ r))
  here = subst (λ es. T (is_sorted value_cmp es)) is sorted

  pub left : T (is_sorted value_cmp l)
  left = sorted_front value_cmp_total l (e ∷ r) here

  pub right : T (is_sorted value_cmp r)
  right = sorted_back value_cmp_total l e r here

  found : find value_cmp k (l ++ e ∷ r) ≡ find value_cmp q d
  found = ap (find value_cmp k) (sym is) ∙ ap (λ j. find value_cmp j d) key

  placed : (v : V) → put value_cmp k v (l ++ e ∷ r) ≡ put value_cmp q v d
  placed v = ap (put value_cmp k v) (sym is) ∙ ap (λ j. put value_cmp j v d) key

  pub found_left : (part : List (Value × V)) {x : Option V} → part ≡ l → (T (is_sorted value_cmp part) → x ≡ find value_cmp k part) → Less ≡ value_cmp k e.0 → x ≡ find value_cmp q d
  found_left part p h less = h (subst (λ es. T (is_sorted value_cmp es)) (sym p) left) ∙ ap (find value_cmp k) p ∙ sym (find_left value_cmp_total k l e r (sym less) here) ∙ found

  pub found_right : (part : List (Value × V)) {x : Option V} → part ≡ r → (T (is_sorted value_cmp part) → x ≡ find value_cmp k part) → Greater ≡ value_cmp k e.0 → x ≡ find value_cmp q d
  found_right part p h more = h (subst (λ es. T (is_sorted value_cmp es)) (sym p) right) ∙ ap (find value_cmp k) p ∙ sym (find_right value_cmp_total k l e r (sym more) here) ∙ found

  pub found_here : Equal ≡ value_cmp k e.0 → Some e.1 ≡ find value_cmp q d
  found_here same = sym (find_here value_cmp_total k l e r (sym same) here) ∙ found

  pub put_on_left : (part new whole : List (Value × V)) (v : V) → part ≡ l → (T (is_sorted value_cmp part) → new ≡ put value_cmp k v part) → Less ≡ value_cmp k e.0 → whole ≡ new ++ e ∷ r → whole ≡ put value_cmp q v d
  put_on_left part new whole v p h less made = made ∙ ap (λ es. es ++ e ∷ r) (h (subst (λ es. T (is_sorted value_cmp es)) (sym p) left) ∙ ap (put value_cmp k v) p) ∙ sym (put_left value_cmp_total k v l e r (sym less)) ∙ placed v

  pub put_on_right : (part new whole : List (Value × V)) (v : V) → part ≡ r → (T (is_sorted value_cmp part) → new ≡ put value_cmp k v part) → Greater ≡ value_cmp k e.0 → whole ≡ l ++ e ∷ new → whole ≡ put value_cmp q v d
  put_on_right part new whole v p h more made = made ∙ ap (λ es. l ++ e ∷ es) (h (subst (λ es. T (is_sorted value_cmp es)) (sym p) right) ∙ ap (put value_cmp k v) p) ∙ sym (put_right value_cmp_total k v l e r (sym more) here) ∙ placed v

  pub put_on_own : (whole : List (Value × V)) (v : V) → Equal ≡ value_cmp k e.0 → whole ≡ l ++ (e.0, v) ∷ r → whole ≡ put value_cmp q v d
  put_on_own whole v same made = made ∙ sym (put_here value_cmp_total k v l e r (sym same) here) ∙ placed v
