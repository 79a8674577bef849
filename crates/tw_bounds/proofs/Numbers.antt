-- Bounds as numbers, 0 if there is none.
use Rattle.tw_bounds.proofs.Names.{AreCosts, Flow, Instr, IsGreatestCost, List, None, Option, Procedure, Scalar, Some, Weights, [], ap, arith, bound_at, cost_in, cost_of, data_weight, map, option_map, params_of, refl, rule_events, same_Some, slice_get, suc, sym, unwrap_or, weight_of, zero, ℕ, ◌*◌, ◌+◌, ◌∙◌, ◌∷◌, ◌≡◌}
use Rattle.tw_code.specs.declared.instr.Instr.TheVariants as instr

abbrev pub num_at : List (Option ℕ) → ℕ → ℕ
num_at bounds q = unwrap_or (bound_at bounds q) 0

abbrev pub weight_num : List Procedure → Weights → List (Option ℕ) → List Scalar → Instr → ℕ
weight_num program weights bounds registers (instr.Local i) = weights.instr
weight_num program weights bounds registers (instr.Data i) = weights.instr + data_weight weights registers i
weight_num program weights bounds registers (instr.Rule action) = weights.instr + weights.rule + weights.rule_event * rule_events (params_of program action.procedure) + num_at bounds action.procedure
weight_num program weights bounds registers (instr.Put action) = weights.instr + num_at bounds action.procedure
weight_num program weights bounds registers instr.Ret = weights.instr

abbrev pub weight_in : List Procedure → Weights → List (Option ℕ) → List Scalar → Option Instr → ℕ
weight_in program weights bounds registers None = 0
weight_in program weights bounds registers (Some i) = weight_num program weights bounds registers i

abbrev pub weight_at : List Procedure → Weights → List (Option ℕ) → List Scalar → List Instr → ℕ → ℕ
weight_at program weights bounds registers code place = weight_in program weights bounds registers (slice_get code place)

pub of_known : (bounds : List (Option ℕ)) (q b : ℕ) → bound_at bounds q ≡ Some b → num_at bounds q ≡ b
of_known bounds q b e = ap (λ (o : Option ℕ). unwrap_or o 0) e

-- a price that is known, of a bound that is
pub mapped_some : (o : Option ℕ) (n : ℕ) (f : ℕ → ℕ) → option_map f o ≡ Some n → (b : ℕ) × (o ≡ Some b) × (n ≡ f b)
mapped_some None n f e = cc
mapped_some (Some b) n f e = (b, refl, sym (same_Some (f b) n e))

weight_true : (program : List Procedure) (weights : Weights) (bounds : List (Option ℕ)) (registers : List Scalar) (i : Instr) (n : ℕ) → weight_of program weights bounds registers i ≡ Some n → n ≡ weight_num program weights bounds registers i
weight_true program weights bounds registers (instr.Local i) n e = sym (same_Some _ n e)
weight_true program weights bounds registers (instr.Data i) n e = sym (same_Some _ n e)
weight_true program weights bounds registers (instr.Rule action) n e = let m = mapped_some (bound_at bounds action.procedure) n _ e in let h = of_known bounds action.procedure m.0 m.1 in omega (arith, m.2, h)
weight_true program weights bounds registers (instr.Put action) n e = let m = mapped_some (bound_at bounds action.procedure) n _ e in let h = of_known bounds action.procedure m.0 m.1 in omega (arith, m.2, h)
weight_true program weights bounds registers instr.Ret n e = sym (same_Some _ n e)

-- the parts of an equation of lists
pub same_parts : {A : Type 0} (x y : A) (xs ys : List A) → (x ∷ xs) ≡ (y ∷ ys) → (x ≡ y) × (xs ≡ ys)
same_parts x y xs ys e = (cc, cc)

-- each place has its price
abbrev pub AllWeighted : List Procedure → Weights → List (Option ℕ) → List Scalar → List Instr → Type 0
AllWeighted program weights bounds registers code = (place : ℕ) (i : Instr) → slice_get code place ≡ Some i → (n : ℕ) × (weight_of program weights bounds registers i ≡ Some n)

pub costs_true : (program : List Procedure) (weights : Weights) (bounds : List (Option ℕ)) (registers : List Scalar) (code : List Instr) (costs : List ℕ) → AreCosts program weights bounds registers code costs → (place : ℕ) → cost_in costs place ≡ weight_at program weights bounds registers code place
costs_true program weights bounds registers [] [] e place = refl
costs_true program weights bounds registers [] (n ∷ costs) e place = cc
costs_true program weights bounds registers (i ∷ code) [] e place = cc
costs_true program weights bounds registers (i ∷ code) (n ∷ costs) e zero = weight_true program weights bounds registers i n (same_parts (weight_of program weights bounds registers i) (Some n) (map (weight_of program weights bounds registers) code) (map Some costs) e).0
costs_true program weights bounds registers (i ∷ code) (n ∷ costs) e (suc place) = costs_true program weights bounds registers code costs (same_parts (weight_of program weights bounds registers i) (Some n) (map (weight_of program weights bounds registers) code) (map Some costs) e).1 place

pub weighted : (program : List Procedure) (weights : Weights) (bounds : List (Option ℕ)) (registers : List Scalar) (code : List Instr) (costs : List ℕ) → AreCosts program weights bounds registers code costs → AllWeighted program weights bounds registers code
weighted program weights bounds registers [] costs e place i at = cc
weighted program weights bounds registers (j ∷ code) [] e place i at = cc
weighted program weights bounds registers (j ∷ code) (n ∷ costs) e zero i at =
    let parts = same_parts (weight_of program weights bounds registers j) (Some n) (map (weight_of program weights bounds registers) code) (map Some costs) e in
    (n, ap (weight_of program weights bounds registers) (sym (same_Some j i at)) ∙ parts.0)
weighted program weights bounds registers (j ∷ code) (n ∷ costs) e (suc place) i at = weighted program weights bounds registers code costs (same_parts (weight_of program weights bounds registers j) (Some n) (map (weight_of program weights bounds registers) code) (map Some costs) e).1 place i at

-- the greatest_cost walk is that of the same costs
cost_same : (c d : ℕ → ℕ) → ((place : ℕ) → c place ≡ d place) → (walk : List ℕ) → cost_of c walk ≡ cost_of d walk
cost_same c d same [] = refl
cost_same c d same (place ∷ walk) = let h = same place in let r = cost_same c d same walk in omega arith

pub greatest_same : (code : List Flow) (c d : ℕ → ℕ) (n : ℕ) → ((place : ℕ) → c place ≡ d place) → IsGreatestCost code c n → IsGreatestCost code d n
greatest_same code c d n same h = record {
  some = (h.some.0, h.some.1, sym (cost_same c d same h.some.0) ∙ h.some.2);
  most = λ walk w. let e = cost_same c d same walk in let m = h.most walk w in omega arith;
}
