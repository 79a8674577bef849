-- The greatest cost of a walk with capped costs is the greatest cost, capped.
use Rattle.tw_bounds.proofs.Names.{AreCapped, AreCosts, Begin, Branch, Close, Flow, Instr, Jump, List, None, Option, Procedure, Scalar, Some, Stop, Straight, Weights, [], after_loop, ap, arith, bound_at, by_flow, cap, cost_in, end_from, greatest_cost, greatest_cost_in, map, min, option_flatten, option_map, refl, same_Some, slice_get, slice_get-map, suc, sym, weight_of, zero, ℕ, ◌*◌, ◌+◌, ◌-◌, ◌∙◌, ◌∷◌, ◌≡◌}
use Rattle.tw_code.specs.declared.instr.Instr.TheVariants as instr
use Rattle.tw_bounds.proofs.Numbers.{same_parts}

abbrev pub AreAlike : ℕ → ℕ → Type 0
AreAlike a b = min a cap ≡ min b cap

-- ---- a greatest cost

turns_alike : (c k s t a b : ℕ) → a ≡ min s cap → b ≡ min t cap → min (c + suc k * a + b) cap ≡ min (c + suc k * s + t) cap
turns_alike c k s t a b e f = grind arith

loop_alike : (c d iterations s t u v : ℕ) → AreAlike c d → AreAlike s t → AreAlike u v → AreAlike (c + iterations * s + u) (d + iterations * t + v)
loop_alike c d zero s t u v first turn rest = omega (arith, first, rest)
loop_alike c d (suc k) s t u v first turn rest =
    let one = turns_alike c k s u (min s cap) (min u cap) refl refl in
    let other = turns_alike d k t v (min t cap) (min v cap) refl refl in
    let same : suc k * min s cap ≡ suc k * min t cap = ap (λ (n : ℕ). suc k * n) turn in
    let a = suc k * min s cap in
    let b = suc k * min t cap in
    omega (arith, first, rest, one, other, same)

after_alike : (place : ℕ) (f g : ℕ → ℕ) (end : Option ℕ) → ((k : ℕ) → AreAlike (f k) (g k)) → AreAlike (after_loop place f end) (after_loop place g end)
after_alike place f g None alike = refl
after_alike place f g (Some end) alike = alike (end - place)

flow_alike : (c d place : ℕ) (rest : List Flow) (f g : ℕ → ℕ) (i : Flow) → AreAlike c d → ((k : ℕ) → AreAlike (f k) (g k)) → AreAlike (by_flow c place rest f i) (by_flow d place rest g i)
flow_alike c d place rest f g Straight first alike = let h = alike 0 in omega (arith, first, h)
flow_alike c d place rest f g (Branch skip) first alike = let h = alike 0 in let k = alike skip in omega (arith, first, h, k)
flow_alike c d place rest f g (Jump skip) first alike = let h = alike skip in omega (arith, first, h)
flow_alike c d place rest f g (Begin iterations) first alike =
    loop_alike c d iterations (f 0) (g 0) (after_loop place f (end_from (place + 1) 0 rest)) (after_loop place g (end_from (place + 1) 0 rest)) first (alike 0) (after_alike place f g (end_from (place + 1) 0 rest) alike)
flow_alike c d place rest f g Close first alike = first
flow_alike c d place rest f g Stop first alike = first

cost_in_alike : (cost other : ℕ → ℕ) (place : ℕ) (code : List Flow) → ((at : ℕ) → AreAlike (cost at) (other at)) → (k : ℕ) → AreAlike (greatest_cost_in cost place code k) (greatest_cost_in other place code k)
cost_in_alike cost other place [] alike k = refl
cost_in_alike cost other place (i ∷ rest) alike zero = flow_alike (cost place) (other place) place rest (greatest_cost_in cost (place + 1) rest) (greatest_cost_in other (place + 1) rest) i (alike place) (cost_in_alike cost other (place + 1) rest alike)
cost_in_alike cost other place (i ∷ rest) alike (suc k) = cost_in_alike cost other (place + 1) rest alike k

pub greatest_alike : (cost other : ℕ → ℕ) (code : List Flow) → ((at : ℕ) → AreAlike (cost at) (other at)) → AreAlike (greatest_cost cost code 0) (greatest_cost other code 0)
greatest_alike cost other code alike = cost_in_alike cost other 0 code alike 0

-- ---- costs by capped bounds

cut : Option ℕ → Option ℕ
cut o = option_map (λ b. min b cap) o

pub capped_at : (known exact : List (Option ℕ)) (q : ℕ) → AreCapped known exact → bound_at known q ≡ option_map (λ b. min b cap) (bound_at exact q)
capped_at known exact q is = ap (λ (xs : List (Option ℕ)). bound_at xs q) is ∙ ap option_flatten (slice_get-map (option_map (λ b. min b cap)) exact q) ∙ by (slice_get exact q)
  where
    by : (o : Option (Option ℕ)) → option_flatten (option_map (option_map (λ b. min b cap)) o) ≡ option_map (λ b. min b cap) (option_flatten o)
    by None = refl
    by (Some x) = refl

-- a sum with a capped bound, and with the exact one
sum_alike : (known exact : List (Option ℕ)) (q w c : ℕ) → AreCapped known exact → option_map (λ b. w + b) (bound_at known q) ≡ Some c → (d : ℕ) × (option_map (λ b. w + b) (bound_at exact q) ≡ Some d) × AreAlike c d
sum_alike known exact q w c is e = by (bound_at exact q) refl
  where
    by : (o : Option ℕ) → bound_at exact q ≡ o → (d : ℕ) × (option_map (λ b. w + b) (bound_at exact q) ≡ Some d) × AreAlike c d
    by None at = let no : None ≡ Some c = sym (ap (option_map (λ b. w + b)) (capped_at known exact q is ∙ ap (option_map (λ b. min b cap)) at)) ∙ e in cc
    by (Some n) at =
        let sum : w + min n cap ≡ c = same_Some (w + min n cap) c (sym (ap (option_map (λ b. w + b)) (capped_at known exact q is ∙ ap (option_map (λ b. min b cap)) at)) ∙ e) in
        (w + n, ap (option_map (λ b. w + b)) at, omega (arith, sum))

module _ (program : List Procedure) (weights : Weights) (known exact : List (Option ℕ)) (is : AreCapped known exact) (registers : List Scalar) where
  weight_alike : (i : Instr) (c : ℕ) → weight_of program weights known registers i ≡ Some c → (d : ℕ) × (weight_of program weights exact registers i ≡ Some d) × AreAlike c d
  weight_alike (instr.Local i) c e = (c, e, refl)
  weight_alike (instr.Data i) c e = (c, e, refl)
  weight_alike (instr.Rule action) c e = sum_alike known exact action.procedure _ c is e
  weight_alike (instr.Put action) c e = sum_alike known exact action.procedure weights.instr c is e
  weight_alike instr.Ret c e = (c, e, refl)

  pub costs_alike : (code : List Instr) (costs : List ℕ) → AreCosts program weights known registers code costs → (others : List ℕ) × AreCosts program weights exact registers code others × ((place : ℕ) → AreAlike (cost_in costs place) (cost_in others place))
  costs_alike [] [] e = ([], refl, λ place. refl)
  costs_alike [] (c ∷ costs) e = cc
  costs_alike (i ∷ code) [] e = cc
  costs_alike (i ∷ code) (c ∷ costs) e =
      let parts = same_parts (weight_of program weights known registers i) (Some c) (map (weight_of program weights known registers) code) (map Some costs) e in
      let first = weight_alike i c parts.0 in
      let rest = costs_alike code costs parts.1 in
      (first.0 ∷ rest.0, ap (λ (o : Option ℕ). o ∷ map (weight_of program weights exact registers) code) first.1 ∙ ap (λ (os : List (Option ℕ)). Some first.0 ∷ os) rest.1, place_alike first.0 rest.0 first.2 rest.2)
    where
      place_alike : (d : ℕ) (others : List ℕ) → AreAlike c d → ((place : ℕ) → AreAlike (cost_in costs place) (cost_in others place)) → (place : ℕ) → AreAlike (cost_in (c ∷ costs) place) (cost_in (d ∷ others) place)
      place_alike d others first rest zero = first
      place_alike d others first rest (suc place) = rest place

  -- an unknown bound is unknown among the exact ones, too
  pub none_alike : (i : Instr) → weight_of program weights known registers i ≡ None → weight_of program weights exact registers i ≡ None
  none_alike (instr.Local i) e = e
  none_alike (instr.Data i) e = e
  none_alike (instr.Rule action) e = by (bound_at exact action.procedure) refl
    where
      by : (o : Option ℕ) → bound_at exact action.procedure ≡ o → weight_of program weights exact registers (instr.Rule action) ≡ None
      by None at = ap (option_map _) at
      by (Some n) at = let no = sym (ap (option_map _) (capped_at known exact action.procedure is ∙ ap (option_map (λ b. min b cap)) at)) ∙ e in cc
  none_alike (instr.Put action) e = by (bound_at exact action.procedure) refl
    where
      by : (o : Option ℕ) → bound_at exact action.procedure ≡ o → weight_of program weights exact registers (instr.Put action) ≡ None
      by None at = ap (option_map _) at
      by (Some n) at = let no = sym (ap (option_map _) (capped_at known exact action.procedure is ∙ ap (option_map (λ b. min b cap)) at)) ∙ e in cc
  none_alike instr.Ret e = e
