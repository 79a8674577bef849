-- Finding entries in a list whose numbers rise.
use Rattle.std.proofs.Common.{◌≡◌, ℕ, Bool, true, false, cond, T, List, [], ◌∷◌, refl, sym, subst}
use Rattle.std.specs.declared.cmp.Ordering.TheVariants.{Less}
use Rattle.std.specs.Prelude.{Some, None}
use Rattle.std.specs.Ordering.{nat_cmp, eq_by_cmp}
use Rattle.std.specs.Cmp.{nat_cmp_total, tied_itself}
use Rattle.std.specs.FinMap.{find, nat_cmp-IsAntisymmetric}
use Rattle.std.specs.FinMap.Entries.{below_all}
use Rattle.tw_types.proofs.Orders.{tied}
use Rattle.tw_types.proofs.Rising.{first, second, less, find_below}

module _ {X : Type 0} where
  abbrev pub IsIn : ℕ × X → List (ℕ × X) → Type 0
  IsIn e es = find nat_cmp e.0 es ≡ Some e.1

  pub same_no : (e f : ℕ × X) → eq_by_cmp nat_cmp e.0 f.0 ≡ true → e.0 ≡ f.0
  same_no e f h = nat_cmp-IsAntisymmetric e.0 f.0 (tied (nat_cmp e.0 f.0) h)

  -- later entries have other numbers
  pub later : (f e : ℕ × X) (es : List (ℕ × X)) → T (below_all nat_cmp f.0 es) → IsIn e es → nat_cmp f.0 e.0 ≡ Less
  later f e [] low there = cc
  later f e (g ∷ es) low there = by (eq_by_cmp nat_cmp e.0 g.0) (λ is. later f e es (second _ _ low) is) refl there
    where
      by : (b : Bool) → (IsIn e es → nat_cmp f.0 e.0 ≡ Less) → eq_by_cmp nat_cmp e.0 g.0 ≡ b → cond b (Some g.1) (find nat_cmp e.0 es) ≡ Some e.1 → nat_cmp f.0 e.0 ≡ Less
      by true rest t is = subst (λ n. nat_cmp f.0 n ≡ Less) (sym (same_no e g t)) (less (nat_cmp f.0 g.0) (first _ _ low))
      by false rest t is = rest is

  pub in_later : (f e : ℕ × X) (es : List (ℕ × X)) → T (below_all nat_cmp f.0 es) → IsIn e es → IsIn e (f ∷ es)
  in_later f e es low there = by (eq_by_cmp nat_cmp e.0 f.0) refl
    where
      by : (b : Bool) → eq_by_cmp nat_cmp e.0 f.0 ≡ b → cond b (Some f.1) (find nat_cmp e.0 es) ≡ Some e.1
      by true t =
          let none : find nat_cmp f.0 es ≡ None = find_below nat_cmp f.0 es low in
          let some : find nat_cmp f.0 es ≡ Some e.1 = subst (λ n. find nat_cmp n es ≡ Some e.1) (same_no e f t) there in
          cc
      by false t = there

  pub in_first : (e : ℕ × X) (es : List (ℕ × X)) → IsIn e (e ∷ es)
  in_first e es = rw (tied_itself nat_cmp_total e.0) refl
