-- The skips of instructions.
use Rattle.tw_asm.proofs.AsmNames.{Computed, Constant, DataInstr, Instr, List, LocalInstr, Natural, None, Option, Priority, Target, [], ap, map, operand_parts, priority_operand, refl, skip_among, skip_of, sym, ℕ, ◌++◌, ◌∙◌, ◌∷◌, ◌≡◌}
use Rattle.tw_code.specs.accepting.Flow.{data_flow, flow_of, local_flow}
use Rattle.tw_code.specs.declared.flow.Flow.{Flow}
use Rattle.tw_code.specs.declared.instr.DataInstr.TheVariants as on_data
use Rattle.tw_code.specs.declared.instr.Instr.TheVariants as instr
use Rattle.tw_code.specs.declared.instr.LocalInstr.TheVariants as local
use Rattle.tw_asm.specs.words.Skips.{skip_in}

args_without : (args : List ℕ) → skip_among (map Natural args ++ []) ≡ None
args_without [] = refl
args_without (arg ∷ args) = args_without args

action_without : (priority : Priority) (target : Option ℕ) (args : List ℕ) → skip_among (operand_parts (priority_operand priority) ++ (Target target ∷ (map Natural args ++ []))) ≡ None
action_without (Constant n) target args = args_without args
action_without (Computed register) target args = args_without args

local_skip : (i : LocalInstr) → skip_of (instr.Local i) ≡ skip_in (local_flow i)
local_skip (local.Int to value) = refl
local_skip i = refl

data_skip : (i : DataInstr) → skip_of (instr.Data i) ≡ skip_in (data_flow i)
data_skip (on_data.New write read ty) = refl
data_skip i = refl

pub skip_is : (i : Instr) → skip_of i ≡ skip_in (flow_of i)
skip_is (instr.Local i) = local_skip i
skip_is (instr.Data i) = data_skip i
skip_is (instr.Rule action) = action_without action.priority action.target action.args
skip_is (instr.Put action) = action_without action.priority action.target action.args
skip_is instr.Ret = refl

-- the skip, as the code finds it
pub skip_by_flow : (i : Instr) (flow : Flow) → flow ≡ flow_of i → skip_in flow ≡ skip_of i
skip_by_flow i flow is = ap skip_in is ∙ sym (skip_is i)
