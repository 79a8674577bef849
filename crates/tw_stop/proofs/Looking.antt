-- Looks after looks.
use Rattle.std.proofs.Common.{◌≡◌, ◌+◌, ℕ, zero, suc, Bool, true, false, List, [], ◌∷◌, ◌++◌, append_assoc, refl, sym, ap, subst, ◌∙◌}
use Rattle.std.proofs.lemmas.List.{replicate-append-replicate, replicate_more}
use Rattle.tw_stop.specs.declared.signal.Never.{Never}
use Rattle.tw_stop.specs.Looks.{Looked, looks, always_no, noes}

module _ {S : Type 0} (says : S → Bool → S → Type 0) where
  pub joined : (p q r : S) (xs ys : List Bool) → Looked says p q xs → Looked says q r ys → Looked says p r (xs ++ ys)
  joined p q r [] ys first others = subst (λ s. Looked says s r ys) (sym first) others
  joined p q r (x ∷ xs) ys first others = (first.0, first.1, joined first.0 q r xs ys first.2 others)

  -- one look more
  pub last_look : (p q r : S) (count : ℕ) (answer : Bool) → Looked says p q (noes count) → says q answer r → Looked says p r (looks count answer)
  last_look p q r count answer before last = joined p q r (noes count) (answer ∷ []) before (r, last, refl)

  pub one_no : (p q r : S) (count : ℕ) → Looked says p q (noes count) → says q false r → Looked says p r (noes (count + 1))
  one_no p q r count before last = subst (λ answers. Looked says p r answers) (replicate_more count false) (last_look p q r count false before last)

  -- some looks more
  pub more_noes : (p q r : S) (count more : ℕ) → Looked says p q (noes count) → Looked says q r (noes more) → Looked says p r (noes (count + more))
  more_noes p q r count more before others = subst (λ answers. Looked says p r answers) (replicate-append-replicate count more false) (joined p q r (noes count) (noes more) before others)

  pub more_looks : (p q r : S) (count more : ℕ) (answer : Bool) → Looked says p q (noes count) → Looked says q r (looks more answer) → Looked says p r (looks (count + more) answer)
  more_looks p q r count more answer before others =
      subst (λ answers. Looked says p r answers) (sym (append_assoc (noes count) (noes more) (answer ∷ [])) ∙ ap (λ xs. xs ++ answer ∷ []) (replicate-append-replicate count more false)) (joined p q r (noes count) (looks more answer) before others)

  -- a signal that never says yes
  pub never_yes : ((p q : S) → says p true q → ⊥) → (p q : S) (count : ℕ) → Looked says p q (looks count true) → ⊥
  never_yes denies p q zero is = denies p is.0 is.1
  never_yes denies p q (suc count) is = never_yes denies is.0 q count is.2

differ : true ≡ false → ⊥
differ e = cc

pub never_stops : (p q : Never) (count : ℕ) → Looked always_no p q (looks count true) → ⊥
never_stops p q count is = never_yes always_no (λ a b yes. differ yes) p q count is
