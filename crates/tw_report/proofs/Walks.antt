-- One step of the walk.
use Rattle.tw_report.proofs.Names.{Bool, Link, List, None, Pending, Some, [], ap, false, is_met, refl, since, step_from, suc, sym, true, walk, zero, ℕ, ◌++◌, ◌==◌, ◌||◌, ◌∙◌, ◌∷◌, ◌≡◌}

pub walk_met : (steps : ℕ) (rules : List Pending) (trail : List Link) (at : Pending) → is_met at.number trail ≡ true → walk steps rules trail at ≡ Some (since at.number trail)
walk_met zero rules trail at met = rw met refl
walk_met (suc steps) rules trail at met = rw met refl

pub walk_lost : (rules : List Pending) (trail : List Link) (at : Pending) → is_met at.number trail ≡ false → walk zero rules trail at ≡ None
walk_lost rules trail at new = rw new refl

pub walk_ends : (steps : ℕ) (rules : List Pending) (trail : List Link) (at : Pending) → is_met at.number trail ≡ false → step_from rules at ≡ None → walk (suc steps) rules trail at ≡ None
walk_ends steps rules trail at new none = rw (new, none) refl

pub walk_on : (steps : ℕ) (rules : List Pending) (trail : List Link) (at next : Pending) (link : Link) → is_met at.number trail ≡ false → step_from rules at ≡ Some (link, next)
    → walk (suc steps) rules trail at ≡ walk steps rules (trail ++ link ∷ []) next
walk_on steps rules trail at next link new step = rw (new, step) refl

-- who was met, with one link more
pub met_more : (n : ℕ) (trail : List Link) (link : Link) → is_met n (trail ++ link ∷ []) ≡ (is_met n trail || link.rule == n)
met_more n [] link = or_false (link.rule == n)
  where
    or_false : (b : Bool) → (b || false) ≡ b
    or_false true = refl
    or_false false = refl
met_more n (l ∷ trail) link = ap (λ b. l.rule == n || b) (met_more n trail link) ∙ sym (or_or (l.rule == n) (is_met n trail) (link.rule == n))
  where
    or_or : (a b c : Bool) → ((a || b) || c) ≡ (a || (b || c))
    or_or true b c = refl
    or_or false b c = refl
