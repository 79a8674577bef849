-- The number of the next rule after an event.
use Rattle.std.proofs.Common.{arith, ◌≡◌, ◌+◌, ℕ, List, length, Option, Some, None, refl, sym, ap, ◌∙◌, slice_get}
use Rattle.std.specs.FinMap.{get}
use Rattle.std.specs.Option.{option_and_then}
use Rattle.std.specs.Prelude.{option_to_list}
use Rattle.tw_types.specs.declared.actor.Actor.{Actor}
use Rattle.tw_types.specs.declared.event.Event.{Event}
use Rattle.tw_types.specs.declared.event.Event.TheVariants.{Take, Local, Call, End, Ask, Deliver, Release}
use Rattle.tw_types.specs.Layout.{ActorCounts}
use Rattle.tw_types.specs.Outcome.{Went}
use Rattle.tw_types.proofs.Outcomes.{IfWent, if_both, if_ok, went_of}
use Rattle.tw_code.specs.declared.instr.Instr.{Instr}
use Rattle.tw_code.specs.declared.instr.Instr.TheVariants as instr
use Rattle.tw_code.specs.declared.procedure.Procedure.{Procedure}
use Rattle.tw_code.specs.machine.Arguments.{called, put_called}
use Rattle.tw_code.specs.machine.Data.{data_instr}
use Rattle.tw_code.specs.machine.Machine.{RunningInstr, call_by, call_event, running_instr_of, step}
use Rattle.tw_code.specs.machine.State.{Frame, State, context_of}
use Rattle.tw_code.proofs.Leaving.{IsRunningAt, is_running_at, take_leaves, local_leaves, end_leaves, ask_leaves, deliver_leaves, release_leaves}
use Rattle.tw_replay_output.specs.Stuck.{rule_by, rule_done, rule_in}
use Rattle.tw_replay_output.specs.declared.replaying.Made.{Made}

-- the number has grown by one if a rule was made, and else by none
record IsMore (s : State) (made : Option Made) (t : State) : Type 0 where
  rule : t.next_rule ≡ s.next_rule + length (option_to_list made)

none_more : (s t : State) → t.next_rule ≡ s.next_rule → IsMore s None t
none_more s t same = record { rule = omega arith }

module _ (program : List Procedure) (actor : Actor) (s : State) where
  -- the actor's task executes this instruction next
  rule_here : (at : RunningInstr) → IsRunningAt program actor s at → (i : Instr) → at.instr ≡ i → rule_in program (get s.frames actor) ≡ rule_by at.frame (Some i)
  rule_here at h i is =
      ap (λ (f : Option Frame). rule_in program f) h.frame
      ∙ ap (λ (p : Option Procedure). rule_by at.frame (option_and_then (λ p. slice_get p.code at.frame.position.place) p)) h.procedure
      ∙ ap (λ (j : Option Instr). rule_by at.frame j) (h.instr ∙ ap Some is)

  more_of : (made other : Option Made) (t : State) → made ≡ other → IsMore s other t → IsMore s made t
  more_of made other t same h = record { rule = h.rule ∙ ap (λ (o : Option Made). s.next_rule + length (option_to_list o)) (sym same) }

  call_more : IfWent (call_event program actor s) (IsMore s (rule_in program (get s.frames actor)))
  call_more = if_both (running_instr_of program actor s) (λ at fits_place. by at (is_running_at program actor s at fits_place) at.instr refl)
    where
      by : (at : RunningInstr) → IsRunningAt program actor s at → (i : Instr) → at.instr ≡ i → IfWent (call_by program s actor at i) (IsMore s (rule_in program (get s.frames actor)))
      by at here (instr.Local i) is = record { is = tt }
      by at here (instr.Data i) is = if_ok (data_instr i (context_of s at.frame)) (λ c e. record { is = more_of _ _ _ (rule_here at here (instr.Data i) is) (none_more s _ refl) })
      by at here (instr.Rule action) is =
          if_ok (called program at.procedure.kind (context_of s at.frame) action) (λ call e. record { is = more_of _ _ _ (rule_here at here (instr.Rule action) is) (record { rule = refl }) })
      by at here (instr.Put action) is =
          if_ok (put_called program at.procedure.kind (context_of s at.frame) action) (λ call e. record { is = more_of _ _ _ (rule_here at here (instr.Put action) is) (none_more s _ refl) })
      by at here instr.Ret is = record { is = tt }

module _ (s : State) where
  event_more : (program : List Procedure) (layout : ActorCounts) (event : Event) → IfWent (step program layout event s) (IsMore s (rule_done program event s))
  unfolding step
  event_more program layout (Take actor) = take_leaves program actor s layout (λ e frame first _. none_more s _ refl)
  event_more program layout (Local actor n) = local_leaves program actor s n (λ frame at _ _. none_more s _ refl)
  event_more program layout (Call actor) = call_more program actor s
  event_more program layout (End actor) = end_leaves program actor s (none_more s _ refl)
  event_more program layout (Ask engine rule parameter) = ask_leaves s engine rule parameter (λ rule id x _. none_more s _ refl) (λ rule id x _. none_more s _ refl)
  event_more program layout (Deliver server datum rule parameter) =
      deliver_leaves s layout server (record { datum = datum; rule = rule; parameter = parameter }) (λ _ _. none_more s _ refl) (λ rule _ _. none_more s _ refl)
  event_more program layout (Release engine rule) = release_leaves s program engine rule (λ rule p _ _. none_more s _ refl)

pub next_rule_is : (program : List Procedure) (layout : ActorCounts) (event : Event) (s t : State) → step program layout event s ≡ Went t → t.next_rule ≡ s.next_rule + length (option_to_list (rule_done program event s))
next_rule_is program layout event s t went = let more = went_of (step program layout event s) (IsMore s (rule_done program event s)) t (event_more s program layout event) went in more.rule
