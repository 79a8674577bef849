-- The flows of a structured procedure are sound.
use Rattle.tw_budget.proofs.Names.{Begin, Branch, Close, Flow, Instr, IsSound, IsStructured, Jump, List, None, Option, Some, Stop, Straight, [], ap, arith, data_flow, flow_of, flows, length-map, local_flow, slice_get, suc, zero, ℕ, ◌<◌, ◌∷◌, ◌≡◌}
use Rattle.std.specs.List.{AllByRecursion}
use Rattle.tw_code.specs.declared.instr.DataInstr.{DataInstr}
use Rattle.tw_code.specs.declared.instr.DataInstr.TheVariants as on_data
use Rattle.tw_code.specs.declared.instr.LocalInstr.{LocalInstr}
use Rattle.tw_code.specs.declared.instr.LocalInstr.TheVariants as local
use Rattle.tw_code.specs.declared.instr.Instr.TheVariants as instr
use Rattle.tw_code.specs.declared.procedure.Procedure.{Procedure}
use Rattle.tw_code.specs.format.Program.{IsInstr, IsProcedure}

-- a REPEAT has iterations, and nothing else begins a loop
local_turns : (i : LocalInstr) (iterations : ℕ) → IsInstr (instr.Local i) → local_flow i ≡ Begin iterations → 0 < iterations
local_turns (local.Repeat given) iterations h e =
    let same : given ≡ iterations = ap (λ (f : Flow). turns_in f) e in
    omega (arith, h.1.0.0, same)
  where
    turns_in : Flow → ℕ
    turns_in Straight = 0
    turns_in (Branch skip) = 0
    turns_in (Jump skip) = 0
    turns_in (Begin n) = n
    turns_in Close = 0
    turns_in Stop = 0
local_turns i iterations h e = cc

no_turns : (i : DataInstr) (iterations : ℕ) → data_flow i ≡ Begin iterations → ⊥
no_turns (on_data.New write read ty) iterations e = cc
no_turns i iterations e = cc

has_turns : (i : Instr) (iterations : ℕ) → IsInstr i → flow_of i ≡ Begin iterations → 0 < iterations
has_turns (instr.Local i) iterations h e = local_turns i iterations h e
has_turns (instr.Data i) iterations h e = absurd (no_turns i iterations e)
has_turns (instr.Rule action) iterations h e = cc
has_turns (instr.Put action) iterations h e = cc
has_turns instr.Ret iterations h e = cc

have_turns : (code : List Instr) → AllByRecursion IsInstr code → (place iterations : ℕ) → slice_get (flows code) place ≡ Some (Begin iterations) → 0 < iterations
have_turns [] h place iterations e = cc
have_turns (i ∷ code) h zero iterations e = has_turns i iterations h.0 (ap (λ (o : Option Flow). elim o as (λ _. Flow) [ None ↦ flow_of i | Some f ↦ f ]) e)
have_turns (i ∷ code) h (suc place) iterations e = have_turns code h.1 place iterations e

-- the flows of a structured procedure
pub sound_flows : (p : Procedure) → IsProcedure p → IsStructured p.code → IsSound (flows p.code)
sound_flows p within structured = record {
  long = omega (arith, within.code.0.0, length-map p.code flow_of);
  iterations = λ place iterations at. have_turns p.code within.code.1 place iterations at;
  each = structured;
}
