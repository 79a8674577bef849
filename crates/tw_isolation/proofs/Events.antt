-- Each event changes only the data of its task.
use Rattle.std.proofs.Common.{◌≡◌, ◌≢◌, ◌+◌, inl, ℕ, List, refl, sym, ap, subst, ◌∙◌}
use Rattle.std.specs.Prelude.{Ok}
use Rattle.std.specs.FinMap.{get, insert}
use Rattle.tw_types.specs.declared.actor.Actor.{Actor}
use Rattle.tw_types.specs.declared.event.Event.{Event}
use Rattle.tw_types.specs.declared.event.Event.TheVariants.{Take, Local, Call, End, Ask, Deliver, Release}
use Rattle.tw_types.specs.Actor.{actor_cmp}
use Rattle.tw_types.specs.Layout.{ActorCounts}
use Rattle.tw_types.specs.declared.notice.Subscriber.{Subscriber}
use Rattle.tw_types.specs.Outcome.{Went}
use Rattle.tw_types.specs.Store.{Store}
use Rattle.tw_types.specs.StoreCalls.{subscribed, with_subscriber}
use Rattle.tw_types.proofs.ActorOrder.{actor_cmp-IsAntisymmetric, actor_cmp_total}
use Rattle.tw_types.proofs.Outcomes.{IfWent, if_both, if_ok, went_of}
use Rattle.tw_types.proofs.Results.{ok_of}
use Rattle.tw_types.proofs.Totals.{insert_other, remove_other}
use Rattle.tw_code.specs.declared.instr.DataInstr.{DataInstr}
use Rattle.tw_code.specs.declared.instr.Instr.{Instr}
use Rattle.tw_code.specs.declared.instr.Instr.TheVariants as instr
use Rattle.tw_code.specs.declared.procedure.Procedure.{Procedure}
use Rattle.tw_code.specs.machine.Arguments.{called, put_called}
use Rattle.tw_code.specs.machine.Data.{Context, data_instr}
use Rattle.tw_code.specs.machine.History.{actor_of}
use Rattle.tw_code.specs.machine.Machine.{RunningInstr, call_by, call_event, running_instr_of, step}
use Rattle.tw_code.specs.machine.State.{Frame, Frames, State, after_context, context_of, frame_after_call}
use Rattle.tw_code.proofs.Leaving.{ask_leaves, deliver_leaves, end_leaves, local_leaves, release_leaves, take_leaves}
use Rattle.tw_isolation.specs.Isolation.{AreIsolated, ChangesContent, IsIsolated}
use Rattle.tw_isolation.proofs.Keeping.{Lives, changed_later, data_lives, lives, same}

module _ (program : List Procedure) (s : State) where
  -- the data are as they were, except the contents that the event changes
  abbrev Keeps : Event → Store → Type 0
  Keeps event = Lives (ChangesContent program event s) s.store

  nothing : (event : Event) → Keeps event s.store
  nothing event = lives (ChangesContent program event s) s.store s.store (same (ChangesContent program event s) s.store.live)

  one_subscriber_more : (event : Event) (id : ℕ) (subscriber : Subscriber) → Keeps event (subscribed s.store id subscriber)
  one_subscriber_more event id subscriber =
      let changes = ChangesContent program event s in
      lives changes s.store (subscribed s.store id subscriber) (changed_later changes s.store id (with_subscriber subscriber) (λ x. refl) (λ x. inl refl))

  -- no frame changes
  unframed : (event : Event) (t : State) → Keeps event t.store → t.frames ≡ s.frames → IsIsolated program event s t
  unframed event t kept frames = record { kept = kept; frames = λ other apart. ap (λ (m : Frames). get m other) frames }

  module _ (actor : Actor) where
    other_frame : (frame : Frame) (other : Actor) → other ≢ actor → get (insert s.frames actor frame) other ≡ get s.frames other
    other_frame frame other apart = insert_other actor_cmp actor_cmp_total actor_cmp-IsAntisymmetric s.frames actor frame other apart

    -- the store is as it was
    framed : (event : Event) → actor_of event ≡ actor → (t : State) → t.store ≡ s.store → ((other : Actor) → other ≢ actor → get t.frames other ≡ get s.frames other) → IsIsolated program event s t
    framed event of_actor t store frames = record {
      kept = subst (Keeps event) (sym store) (nothing event);
      frames = λ other apart. frames other (λ same. apart (same ∙ sym of_actor));
    }

    -- an instruction on data
    on_data : (at : RunningInstr) → running_instr_of program actor s ≡ Went at → (i : DataInstr) → at.instr ≡ instr.Data i → (c : Context) → data_instr i (context_of s at.frame) ≡ Ok c
        → IsIsolated program (Call actor) s (after_context s actor at.frame c)
    on_data at runs i here c went =
        let before = context_of s at.frame in
        let changes = ChangesContent program (Call actor) s in
        record {
          kept = ok_of (data_instr i before) (λ e. Lives changes before.store e.store) c
              (data_lives before changes i (λ register id changed holds. record { actor = actor; is = refl; at = at; runs = runs; executed = i; here = here; register = register; changed = changed; holds = holds })) went;
          frames = λ other apart. other_frame _ other apart;
        }

    by_instr : (at : RunningInstr) → running_instr_of program actor s ≡ Went at → (i : Instr) → at.instr ≡ i → IfWent (call_by program s actor at i) (IsIsolated program (Call actor) s)
    by_instr at runs (instr.Local i) here = record { is = tt }
    by_instr at runs (instr.Data i) here = if_ok (data_instr i (context_of s at.frame)) (λ c went. record { is = on_data at runs i here c went })
    by_instr at runs (instr.Rule action) here = if_ok (called program at.procedure.kind (context_of s at.frame) action)
        (λ call _. record { is = framed (Call actor) refl _ refl (other_frame (frame_after_call at.frame call.rights)) })
    by_instr at runs (instr.Put action) here = if_ok (put_called program at.procedure.kind (context_of s at.frame) action)
        (λ call _. record { is = framed (Call actor) refl _ refl (other_frame (frame_after_call at.frame call.rights)) })
    by_instr at runs instr.Ret here = record { is = tt }

    call_isolated : IfWent (call_event program actor s) (IsIsolated program (Call actor) s)
    call_isolated = if_both (running_instr_of program actor s) (λ at runs. by_instr at runs at.instr refl)

event_isolated : (program : List Procedure) (layout : ActorCounts) (event : Event) (s : State) → IfWent (step program layout event s) (IsIsolated program event s)
unfolding step
event_isolated program layout (Take actor) s = take_leaves program actor s layout (λ task frame _ begun. framed program s actor (Take actor) refl _ refl (other_frame program s actor frame))
event_isolated program layout (Local actor n) s =
    local_leaves program actor s n (λ frame at some here. framed program s actor (Local actor n) refl _ refl (other_frame program s actor (record frame { position = at; spent = frame.spent + n })))
event_isolated program layout (Call actor) s = call_isolated program s actor
event_isolated program layout (End actor) s = end_leaves program actor s
    (framed program s actor (End actor) refl _ refl (λ other apart. remove_other actor_cmp actor_cmp_total actor_cmp-IsAntisymmetric s.frames actor other apart))
event_isolated program layout (Ask engine number parameter) s = ask_leaves s engine number parameter
    (λ rule id x _. unframed program s (Ask engine number parameter) _ (nothing program s (Ask engine number parameter)) refl)
    (λ rule id x _. unframed program s (Ask engine number parameter) _ (one_subscriber_more program s (Ask engine number parameter) id (record { rule = number; parameter = parameter })) refl)
event_isolated program layout (Deliver server datum rule parameter) s = deliver_leaves s layout server (record { datum = datum; rule = rule; parameter = parameter })
    (λ _ _. unframed program s (Deliver server datum rule parameter) _ (nothing program s (Deliver server datum rule parameter)) refl)
    (λ found _ _. unframed program s (Deliver server datum rule parameter) _ (nothing program s (Deliver server datum rule parameter)) refl)
event_isolated program layout (Release engine number) s =
    release_leaves s program engine number (λ rule p _ _. unframed program s (Release engine number) _ (nothing program s (Release engine number)) refl)

pub are_isolated : AreIsolated
are_isolated program layout event s t went = went_of (step program layout event s) (IsIsolated program event s) t (event_isolated program layout event s) went
