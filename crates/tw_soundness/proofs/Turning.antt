-- The facts that a scheduling step needs: an instruction of a running task succeeds, a task starts, and what an engine asks for is a read.
use Rattle.std.proofs.Common.{◌≡◌, ℕ, ◌+◌, ◌<◌, List, slice_get, Some, sym, ap, ◌∙◌, arith}
use Rattle.tw_soundness.proofs.MachineNames.{Actor, AreRight, Context, DataInstr, Frame, IsHeld, IsProgram, Ok, Position, Procedure, State, Typings, Went, below_budget, context_of, data_instr, flows, get, greatest_budget, local_steps, same_Some}
use Rattle.tw_code.specs.declared.instr.Instr.TheVariants as instr
use Rattle.tw_soundness.proofs.Accepted as acceptance
use Rattle.tw_soundness.proofs.Conditions.{goes_ok}
use Rattle.tw_soundness.proofs.Running.{steps_position}
use Rattle.tw_soundness.proofs.Safe.{accepts}

module _ (program : List Procedure) (typings : Typings) (is : IsProgram program) (are : AreRight program typings) (s : State) (held : IsHeld program typings s) where
  module _ (a : Actor) (f : Frame) (runs : get s.frames a ≡ Some f) (p : Procedure) (here : slice_get program f.procedure ≡ Some p) where
    -- its instruction on data succeeds
    pub data_goes : (d : DataInstr) → slice_get p.code f.position.place ≡ Some (instr.Data d) → (k : Context) × (data_instr d (context_of s f) ≡ Ok k)
    data_goes d at =
        let known = acceptance.known program typings (accepts program typings is are) s held a f runs in
        let own : p ≡ known.procedure = same_Some p known.procedure (sym here ∙ known.here) in
        let same : known.instr ≡ instr.Data d = same_Some known.instr (instr.Data d) (sym known.at ∙ ap (λ (q : Procedure). slice_get q.code f.position.place) (sym own) ∙ at) in
        let went = goes_ok (data_instr d (context_of s f)) _ (known.turn.by_data d same) in
        (went.0, went.1)

    -- local steps that go are fewer than a budget may be
    pub few_steps : (n : ℕ) (to : Position) → local_steps n p.code f.position ≡ Went to → n < greatest_budget
    few_steps n to went =
        let acc = accepts program typings is are f.procedure p here in
        let budget = (are.accepted.each f.procedure p here).budget in
        let fits_place = steps_position program typings is are s held a f runs p here n to went in
        let below = below_budget (flows p.code) acc.sound budget.0 (f.spent + n) to.place to.loops (fits_place.within budget.0 budget.1) in
        omega (arith, below, budget.2)
