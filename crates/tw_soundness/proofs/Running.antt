-- Consequences of typings of rights for the code and for a running task: checks, results, and the content of its registers.
use Rattle.std.proofs.Common.{[], ◌≡◌, ℕ, ◌+◌, ◌<◌, true, List, length, slice_get, Option, Some, None, refl, sym, ap, subst, ◌∙◌, arith}
use Rattle.tw_soundness.proofs.MachineNames.{Accepts, Actor, AreRight, Begin, Branch, Close, Completed, Datum, Flow, Frame, Instr, IsAtPosition, IsHeld, IsProgram, Jump, Position, Procedure, RightType, Rights, RightsFit, Skipped, State, Stop, Straight, Typing, Typings, Way, Went, after, context_of, flow_of, flows, get, goal_of, is_closed, is_closed_mode, length-map, local_steps, no_rejections, not_last, onward, option_flatten, option_map, requires_by_instr, right_at, same_Some, slice_get-get_or, slice_get-map, slice_get_within, start_typing, stays, typing_at, typing_of}
use Rattle.tw_budget.specs.Sound.{IsSound}
use Rattle.tw_soundness.proofs.Accepted as acceptance
use Rattle.tw_soundness.proofs.Live.{typed_where_held}
use Rattle.tw_soundness.proofs.Moving.{IsLeftBy, asked, steps_keep}
use Rattle.tw_soundness.proofs.Registers.{at_right}
use Rattle.tw_soundness.proofs.Safe.{accepts}
use Rattle.tw_soundness.proofs.Steps.{keeps_went}
use Rattle.tw_soundness.proofs.TaskEvents.{fits_of, other_reads, other_writes}
use Rattle.tw_soundness.proofs.Values.{AllYes}

-- each later successor of a place is in the code
onward_inside : (code : List Flow) → IsSound code → (place next : ℕ) (flow : Flow) (way : Way) → slice_get code place ≡ Some flow → onward way place flow ≡ Some next → next < length code
onward_inside code s place next Straight Completed at e = omega (arith, same_Some (place + 1) next e, not_last code s place Straight at refl)
onward_inside code s place next Straight Skipped at e = cc
onward_inside code s place next (Branch skip) Completed at e = omega (arith, same_Some (place + 1) next e, not_last code s place (Branch skip) at refl)
onward_inside code s place next (Branch skip) Skipped at e = subst (λ (n : ℕ). n < length code) (same_Some (goal_of place skip) next e) (stays code s place (goal_of place skip) (no_rejections code s place (Branch skip) at).0).0
onward_inside code s place next (Jump skip) Completed at e = subst (λ (n : ℕ). n < length code) (same_Some (goal_of place skip) next e) (stays code s place (goal_of place skip) (no_rejections code s place (Jump skip) at).0).0
onward_inside code s place next (Jump skip) Skipped at e = cc
onward_inside code s place next (Begin iterations) Completed at e = omega (arith, same_Some (place + 1) next e, not_last code s place (Begin iterations) at refl)
onward_inside code s place next (Begin iterations) Skipped at e = cc
onward_inside code s place next Close Completed at e = omega (arith, same_Some (place + 1) next e, not_last code s place Close at refl)
onward_inside code s place next Close Skipped at e = cc
onward_inside code s place next Stop Completed at e = cc
onward_inside code s place next Stop Skipped at e = cc

-- if the typing is empty there, the register is
empty_where_free : (s : State) (typing : Typing) (rights : Rights) (k : ℕ) (o : Option ℕ) → RightsFit s.store typing rights → right_at typing k ≡ None → right_at rights k ≡ o → o ≡ None
empty_where_free s typing rights k None fit free at = refl
empty_where_free s typing rights k (Some d) fit free at =
    let right = typed_where_held s.store typing rights k d fit at in
    let both : None ≡ Some right.0 = sym free ∙ right.1 in
    cc

-- a register holds a live datum of the right's type, closed where the right says so
pub record HoldsLive (s : State) (f : Frame) (k : ℕ) (right : RightType) : Type 0 where
  pub id : ℕ
  pub register : right_at f.rights k ≡ Some id
  pub x : Datum
  pub live : get s.store.live id ≡ Some x
  pub ty : x.ty ≡ right.ty
  pub closed : is_closed_mode right.mode ≡ true → is_closed x ≡ true

module _ (program : List Procedure) (typings : Typings) (is : IsProgram program) (are : AreRight program typings) where
  -- ---- the code of a procedure

  module _ (number : ℕ) (p : Procedure) (here : slice_get program number ≡ Some p) where
    acc : Accepts program (typings number) p
    acc = accepts program typings is are number p here

    there : (place : ℕ) → place < length (flows p.code) → slice_get (typings number) place ≡ Some (typing_at typings number place)
    there place h = slice_get-get_or (typings number) place [] (omega (arith, h, length-map p.code flow_of, acc.typed.long))

    -- the first place has the parameters' typing
    pub typed_at_start : typing_at typings number 0 ≡ start_typing p.params
    typed_at_start = acc.typed.begins (typing_at typings number 0) (there 0 acc.sound.long)

    -- each check of an instruction is met by the typing of its place
    pub asked_at : (place : ℕ) (i : Instr) → slice_get p.code place ≡ Some i → AllYes (requires_by_instr program p i (typing_at typings number place))
    asked_at place i at = asked program (typings number) p acc place i at

    -- a later successor, of either outcome, is in the code and has the typing that the instruction leaves
    pub typed_after : (place next : ℕ) (i : Instr) (way : Way) → slice_get p.code place ≡ Some i → onward way place (flow_of i) ≡ Some next
        → (next < length p.code) × (typing_at typings number next ≡ after program way i (typing_at typings number place))
    typed_after place next i way at goes =
        let flow : slice_get (flows p.code) place ≡ Some (flow_of i) = slice_get-map flow_of p.code place ∙ ap (option_map flow_of) at in
        let within = onward_inside (flows p.code) acc.sound place next (flow_of i) way flow goes in (
          omega (arith, within, length-map p.code flow_of),
          acc.typed.later place next i way (typing_at typings number place) (typing_at typings number next) at (there place (slice_get_within (flows p.code) place (flow_of i) flow)) goes (there next within),
        )

  -- ---- a task that runs

  module _ (s : State) (held : IsHeld program typings s) (a : Actor) (f : Frame) (runs : get s.frames a ≡ Some f) where
    module _ (p : Procedure) (here : slice_get program f.procedure ≡ Some p) where
      own : Accepts program (typings f.procedure) p
      own = accepts program typings is are f.procedure p here

      -- it is in loops that it has begun, within its budget, with values of the declared types
      pub position_there : IsAtPosition p f.spent f.position
      position_there = acceptance.fits_place program typings (accepts program typings is are) s held a f runs p here

      module _ (n : ℕ) (to : Position) (went : local_steps n p.code f.position ≡ Went to) where
        left_by : IsLeftBy program (typings f.procedure) p own (typing_of typings f) (f.spent + n) to
        left_by = keeps_went (local_steps n p.code f.position) _ to (steps_keep program (typings f.procedure) p own n (typing_of typings f) f.spent f.position (record { fits_place = position_there; typing_there = refl })) went

        -- after local steps it has a right position again
        pub steps_position : IsAtPosition p (f.spent + n) to
        steps_position = left_by.fits_place

        -- and they leave what the registers hold, through jumps and loops
        pub steps_leave : typing_at typings f.procedure to.place ≡ typing_of typings f
        steps_leave = left_by.typing_there

    -- ---- its registers

    -- if the typing has a right, the register has such a datum
    pub register_holds : (k : ℕ) (right : RightType) → right_at (typing_of typings f) k ≡ Some right → HoldsLive s f k right
    register_holds k right typed =
        let h = at_right k (typing_of typings f) (context_of s f) (other_reads program typings s a) (other_writes program typings s a) right (fits_of program typings s held a f runs) typed in
        record { id = h.id; register = ap option_flatten h.register; x = h.x; live = h.live; ty = h.ty; closed = h.closed }

    -- if the typing has no right, the register is empty
    pub register_is_empty : (k : ℕ) → right_at (typing_of typings f) k ≡ None → right_at f.rights k ≡ None
    register_is_empty k free = empty_where_free s (typing_of typings f) f.rights k (right_at f.rights k) (held.types.rights a f runs) free refl
