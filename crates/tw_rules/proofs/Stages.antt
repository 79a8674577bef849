-- Stages of the parameters of a rule.
use Rattle.tw_rules.proofs.Names.{Bool, Free, List, Param, Ready, Stage, Unasked, Waiting, [], cond, false, first_stage, is_settled, is_unasked, list_all, list_any, map, refl, slice_set, suc, true, zero, ℕ, ◌&&◌, ◌||◌, ◌∷◌, ◌≡◌}
use Rattle.std.specs.Prelude.{Some, slice_get, option_map}
use Rattle.tw_types.specs.Mode.{is_closed_mode}

settled_or_not : (s : Stage) → is_settled s ≡ true → is_unasked s ≡ false
settled_or_not Free h = refl
settled_or_not Unasked h = cc
settled_or_not Waiting h = cc
settled_or_not Ready h = refl

-- if all parameters are settled none is unasked
pub settled_idle : (stages : List Stage) → list_all is_settled stages ≡ true → list_any is_unasked stages ≡ false
settled_idle [] h = refl
settled_idle (s ∷ stages) h = by (is_settled s) refl h (settled_idle stages)
  where
    by : (b : Bool) → is_settled s ≡ b → (b && list_all is_settled stages) ≡ true → (list_all is_settled stages ≡ true → list_any is_unasked stages ≡ false)
        → (is_unasked s || list_any is_unasked stages) ≡ false
    by true e h rest = rw (settled_or_not s e) (rest h)
    by false e h rest = cc

-- a new rule that isn't settled has an unasked parameter
pub fresh_unasked : (params : List Param) → list_all is_settled (map (λ p. first_stage p.mode) params) ≡ false → list_any is_unasked (map (λ p. first_stage p.mode) params) ≡ true
fresh_unasked [] h = cc
fresh_unasked (p ∷ params) h = by (is_closed_mode p.mode) h (fresh_unasked params)
  where
    by : (b : Bool) → (is_settled (cond b Unasked Free) && list_all is_settled (map (λ q. first_stage q.mode) params)) ≡ false
        → (list_all is_settled (map (λ q. first_stage q.mode) params) ≡ false → list_any is_unasked (map (λ q. first_stage q.mode) params) ≡ true)
        → (is_unasked (cond b Unasked Free) || list_any is_unasked (map (λ q. first_stage q.mode) params)) ≡ true
    by true h rest = refl
    by false h rest = rest h

-- a stage other than `Unasked` makes no parameter unasked
pub staged_unasked : (stages : List Stage) (k : ℕ) (s : Stage) → is_unasked s ≡ false → list_any is_unasked (slice_set stages k s) ≡ true → list_any is_unasked stages ≡ true
staged_unasked [] k s e h = h
staged_unasked (t ∷ stages) zero s e h = by (is_unasked t)
  where
    rest : list_any is_unasked stages ≡ true
    rest = rw e at h

    by : (b : Bool) → (b || list_any is_unasked stages) ≡ true
    by true = refl
    by false = rest
staged_unasked (t ∷ stages) (suc k) s e h = by (is_unasked t) h (staged_unasked stages k s e)
  where
    by : (b : Bool) → (b || list_any is_unasked (slice_set stages k s)) ≡ true → (list_any is_unasked (slice_set stages k s) ≡ true → list_any is_unasked stages ≡ true)
        → (b || list_any is_unasked stages) ≡ true
    by true h rest = refl
    by false h rest = rest h

-- a parameter that isn't settled keeps the rule from being released
pub unsettled_holds : (stages : List Stage) (k : ℕ) → option_map is_settled (slice_get stages k) ≡ Some false → list_all is_settled stages ≡ false
unsettled_holds [] k h = cc
unsettled_holds (s ∷ stages) zero h = let e : is_settled s ≡ false = cc in rw e refl
unsettled_holds (s ∷ stages) (suc k) h = by (is_settled s) (unsettled_holds stages k h)
  where
    by : (b : Bool) → list_all is_settled stages ≡ false → (b && list_all is_settled stages) ≡ false
    by true rest = rest
    by false rest = refl
