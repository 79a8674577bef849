-- Each running task has exactly one next step, which succeeds, and is below its budget.
use Rattle.std.proofs.Common.{◌≡◌, ℕ, ◌+◌, inl, inr, true, false, List, slice_get, Some, None, is_none, refl, sym, ap, subst, ◌∙◌}
use Rattle.tw_soundness.proofs.MachineNames.{Accepts, Actor, ActorCounts, Cause, Err, ExactlyOne, Frame, GivesState, HasOneStep, Instr, IsBelowBudget, IsHeld, LocalInstr, NotEnabled, Ok, Outcome, Position, Procedure, Result, RightLeft, State, Trap, Typings, Went, after_context, below_budget, called, context_of, data_instr, flows, frame_after_call, get, list_all, must, new_rule, number_in_kind, only_if, outcome_of, put_called, remove, requires_by_instr, typing_of, with_frame, with_rule, with_task, ◌>>=◌, ◌>>◌}
use Rattle.tw_code.specs.declared.instr.Instr.TheVariants as instr
use Rattle.tw_code.specs.machine.Machine.{RunningInstr, call_by, call_event, end_event, is_ret, local_event, local_of, local_step, local_steps, running_instr_of, step}
use Rattle.tw_soundness.proofs.Accepted.{known, fits_place}
use Rattle.tw_soundness.proofs.AllEvents.{Known, all_empty}
use Rattle.tw_soundness.proofs.Called.{called_goes, put_goes}
use Rattle.tw_soundness.proofs.Moving.{at_other, step_goes}
use Rattle.tw_soundness.proofs.Steps.{Goes, Happens}
use Rattle.tw_soundness.proofs.Values.{AllYes}
use Rattle.tw_soundness.proofs.TaskEvents.{fits_of, other_reads, other_writes}

-- a success is a state
goes_gives : {A : Type 0} (r : Result A Cause) (f : A → State) (P : A → Type 0) → Goes r P → GivesState (outcome_of r >>= λ x. Went (f x))
goes_gives (Ok x) f P h = (f x, refl)
goes_gives (Err cause) f P h = absurd h

first_gives : (o : Outcome Position) (f : Position → State) (P : Position → Type 0) (more : Position → Outcome Position) → ((at : Position) → more at ≡ Went at) → Happens o P → GivesState ((o >>= more) >>= λ at. Went (f at))
first_gives (Went at) f P more same h = (f at, ap (λ (o : Outcome Position). o >>= λ to. Went (f to)) (same at))
first_gives NotEnabled f P more same h = absurd h
first_gives (Trap cause) f P more same h = absurd h

module _ (program : List Procedure) (typings : Typings) (accepts : (k : ℕ) (p : Procedure) → slice_get program k ≡ Some p → Accepts program (typings k) p) where
  module _ (s : State) (held : IsHeld program typings s) (a : Actor) (f : Frame) (is : get s.frames a ≡ Some f) (k : Known program typings s held a f is) where
    acc : Accepts program (typings f.procedure) k.procedure
    acc = accepts f.procedure k.procedure k.here

    abbrev running_instr : RunningInstr
    running_instr = record { frame = f; procedure = k.procedure; instr = k.instr }

    call_is : call_event program a s ≡ call_by program s a running_instr k.instr
    call_is = ap (λ (o : Outcome RunningInstr). o >>= λ at. call_by program s a at at.instr) running_instr_is
      where
        running_instr_is : running_instr_of program a s ≡ Went running_instr
        running_instr_is = rw (is, k.here, k.at) refl

    abbrev ended : Instr → Outcome State
    ended i = only_if (is_ret i) >> (outcome_of (must (list_all is_none f.rights) RightLeft) >> Went (record s { frames = remove s.frames a }))

    end_is : end_event program a s ≡ ended k.instr
    end_is = rw (is, k.here, k.at) refl

    abbrev moved_so : Outcome Position → Outcome State
    moved_so o = (o >>= λ to. local_steps 0 k.procedure.code to) >>= λ at. Went (with_frame s a (record f { position = at; spent = f.spent + 1 }))

    local_is : local_event program a 1 s ≡ moved_so (local_step k.procedure.code f.position)
    local_is = rw (is, k.here) refl

    local_waits : local_of k.instr ≡ None → local_event program a 1 s ≡ NotEnabled
    local_waits none = local_is ∙ ap moved_so (at_other program (typings f.procedure) k.procedure acc f.position k.instr k.at none)

    local_goes : (i : LocalInstr) → k.instr ≡ instr.Local i → GivesState (local_event program a 1 s)
    local_goes i e = subst GivesState (sym local_is)
        (first_gives (local_step k.procedure.code f.position) (λ at. with_frame s a (record f { position = at; spent = f.spent + 1 })) _ (local_steps 0 k.procedure.code) (λ at. refl)
        (step_goes program (typings f.procedure) k.procedure acc (typing_of typings f) f.spent f.position i
        (record { fits_place = fits_place program typings accepts s held a f is k.procedure k.here; typing_there = refl }) (k.at ∙ ap Some e)))

    call_goes : (i : Instr) → k.instr ≡ i → GivesState (call_by program s a running_instr i) → GivesState (call_event program a s)
    call_goes i e g = subst GivesState (sym (call_is ∙ ap (call_by program s a running_instr) e)) g

    call_waits : (i : Instr) → k.instr ≡ i → call_by program s a running_instr i ≡ NotEnabled → call_event program a s ≡ NotEnabled
    call_waits i e waits = call_is ∙ ap (call_by program s a running_instr) e ∙ waits

    end_waits : is_ret k.instr ≡ false → end_event program a s ≡ NotEnabled
    end_waits e = end_is ∙ ap (λ b. only_if b >> (outcome_of (must (list_all is_none f.rights) RightLeft) >> Went (record s { frames = remove s.frames a }))) e

    by_call : (i : Instr) → k.instr ≡ i → local_of i ≡ None → is_ret i ≡ false → GivesState (call_by program s a running_instr i) → ExactlyOne (local_event program a 1 s) (call_event program a s) (end_event program a s)
    by_call i e none no_ret g = inr (inl (record { goes = call_goes i e g; second_waits = local_waits (ap local_of e ∙ none); third_waits = end_waits (ap is_ret e ∙ no_ret) }))

    -- exactly one of the three is next
    pub one_of_three : ExactlyOne (local_event program a 1 s) (call_event program a s) (end_event program a s)
    one_of_three = by k.instr refl
      where
        by : (i : Instr) → k.instr ≡ i → ExactlyOne (local_event program a 1 s) (call_event program a s) (end_event program a s)
        by (instr.Local i) e = inl (record { goes = local_goes i e; second_waits = call_waits (instr.Local i) e refl; third_waits = end_waits (ap is_ret e) })
        by (instr.Data d) e = by_call (instr.Data d) e refl refl
            (goes_gives (data_instr d (context_of s f)) (after_context s a f) _ (k.turn.by_data d e))
        by (instr.Rule action) e = by_call (instr.Rule action) e refl refl
            (goes_gives (called program k.procedure.kind (context_of s f) action) (λ call. with_frame (with_rule s (new_rule (number_in_kind a) call.params call.task)) a (frame_after_call f call.rights)) _
            (called_goes program k.procedure (context_of s f) (typing_of typings f) (other_reads program typings s a) (other_writes program typings s a) action (fits_of program typings s held a f is) (held.types.values a f k.procedure is k.here) true
            (subst (λ i. AllYes (requires_by_instr program k.procedure i (typing_of typings f))) e k.turn.met)))
        by (instr.Put action) e = by_call (instr.Put action) e refl refl
            (goes_gives (put_called program k.procedure.kind (context_of s f) action) (λ call. with_frame (with_task s call.task) a (frame_after_call f call.rights)) _
            (put_goes program k.procedure (context_of s f) (typing_of typings f) (other_reads program typings s a) (other_writes program typings s a) action (fits_of program typings s held a f is) (held.types.values a f k.procedure is k.here)
            (subst (λ i. AllYes (requires_by_instr program k.procedure i (typing_of typings f))) e k.turn.met)))
        by instr.Ret e =
            let empty = all_empty s.store (typing_of typings f) f.rights (held.types.rights a f is) (k.stops (ap is_ret e)) in
            let gone : end_event program a s ≡ Went (record s { frames = remove s.frames a }) = end_is ∙ ap ended e ∙ rw empty refl in
            inr (inr (record { goes = (record s { frames = remove s.frames a }, gone); second_waits = local_waits (ap local_of e); third_waits = call_waits instr.Ret e refl }))

  pub one_step : (layout : ActorCounts) (s : State) (a : Actor) (f : Frame) → IsHeld program typings s → get s.frames a ≡ Some f → HasOneStep program layout s a
  unfolding step
  one_step layout s a f held is = one_of_three s held a f is (known program typings accepts s held a f is)

  pub below : (s : State) (a : Actor) (f : Frame) → IsHeld program typings s → get s.frames a ≡ Some f → IsBelowBudget program f
  below s a f held is =
      let k = known program typings accepts s held a f is in (
        k.procedure,
        k.here,
        λ budget most. below_budget (flows k.procedure.code) (accepts f.procedure k.procedure k.here).sound budget f.spent f.position.place f.position.loops
            ((fits_place program typings accepts s held a f is k.procedure k.here).within budget most),
      )
