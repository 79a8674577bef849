-- The parts that an event keeps: data that were there keep their types and stay closed, the host keeps its outputs, and the
-- numbers of running tasks are below the next one.
use Rattle.std.proofs.Common.{◌≡◌, ℕ, ◌+◌, ◌<◌, ◌≤◌, List, [], ◌∷◌, slice_get, Some, inl, inr, refl, sym, ap, subst, ◌∙◌, arith}
use Rattle.tw_soundness.proofs.MachineNames.{Actor, ActorCounts, Ask, Call, Cause, Context, DataInstr, Datum, Deliver, End, Event, Frame, Frames, IfWent, Instr, IsHeld, IsRunningAt, Local, Ok, Procedure, Release, Result, State, Subscriber, Take, Task, Typings, Went, WhereOk, WrongCall, actor_cmp-IsAntisymmetric, actor_cmp_total, ask_leaves, before_removal, best_waits, called, context_of, data_instr, deliver_leaves, end_leaves, filled, frame_of, get, if_both, if_ok, insert, is_running_at, local_leaves, ok_both, ok_of, ok_there, put_called, put_or_before, release_leaves, same_Some, same_went, subscribed, take_leaves, values_in, went_first, went_of}
use Rattle.tw_code.specs.declared.instr.Instr.TheVariants as instr
use Rattle.tw_code.specs.machine.Machine.{RunningInstr, call_by, call_event, run, running_instr_of, step}
use Rattle.tw_soundness.proofs.AllEvents.{Accepted, step_keeps}
use Rattle.tw_soundness.proofs.Registers.{Undisturbed, undisturbed_after, undisturbed_itself}
use Rattle.tw_soundness.proofs.Stages.{subscribed_undisturbed}
use Rattle.tw_soundness.proofs.Steps.{Goes, keeps_went}
use Rattle.tw_soundness.proofs.Whole.{LeftSo}

abbrev pub AreRunning : State → Type 0
AreRunning s = (actor : Actor) (frame : Frame) → get s.frames actor ≡ Some frame → frame.task < s.next_task

pub record Lasts (s t : State) : Type 0 where
  pub store : Undisturbed s.store t.store
  pub outputs : t.outputs ≡ s.outputs
  pub running : AreRunning s → AreRunning t

lasts_after : (s t u : State) → Lasts s t → Lasts t u → Lasts s u
lasts_after s t u a b = record { store = undisturbed_after s.store t.store u.store a.store b.store; outputs = b.outputs ∙ a.outputs; running = λ h. b.running (a.running h) }

-- one frame more, or another in its place
running_put : (frames : Frames) (a : Actor) (f : Frame) (next : ℕ) → f.task < next → ((b : Actor) (g : Frame) → get frames b ≡ Some g → g.task < next) → (b : Actor) (g : Frame) → get (insert frames a f) b ≡ Some g → g.task < next
running_put frames a f next less h b g at = elim (put_or_before actor_cmp_total actor_cmp-IsAntisymmetric frames a f b g at) [
  | inl e ↦ subst (λ (z : Frame). z.task < next) e.1 less
  | inr old ↦ h b g old
]

number_is : (program : List Procedure) (number : ℕ) (task : Task) → WhereOk (frame_of program number task) (λ frame. frame.task ≡ number)
number_is program number task = ok_there (slice_get program task.procedure) WrongCall (λ p _. ok_both (filled (values_in task.args) p.registers) (λ values _. record { is = refl }))

goes_at : {A : Type 0} (r : Result A Cause) (P : A → Type 0) (x : A) → Goes r P → r ≡ Ok x → P x
goes_at r P x h e = rw e at h

module _ (program : List Procedure) (typings : Typings) (accepted : Accepted program typings) where
  module _ (s : State) (held : IsHeld program typings s) where
    -- a frame of the same task, and a next number that isn't less
    frame_again : (a : Actor) (f g : Frame) (next : ℕ) → get s.frames a ≡ Some f → g.task ≡ f.task → s.next_task ≤ next → AreRunning s → (b : Actor) (x : Frame) → get (insert s.frames a g) b ≡ Some x → x.task < next
    frame_again a f g next is same more h =
        running_put s.frames a g next (let l = h a f is in omega (arith, same)) (λ b x at. let l = h b x at in omega arith)

    called_lasts : (a : Actor) → IfWent (call_event program a s) (Lasts s)
    called_lasts a = if_both (running_instr_of program a s) (λ at e. by at (is_running_at program a s at e) at.instr refl)
      where
        left : (at : RunningInstr) → IsRunningAt program a s at → (d : DataInstr) (c : Context) → at.instr ≡ instr.Data d → data_instr d (context_of s at.frame) ≡ Ok c → Undisturbed s.store c.store
        left at st d c is e =
            let k = accepted.known s held a at.frame st.frame in
            let own : k.procedure ≡ at.procedure = same_Some k.procedure at.procedure (sym k.here ∙ st.procedure) in
            let same : k.instr ≡ instr.Data d = same_Some k.instr (instr.Data d) (sym k.at ∙ ap (λ (q : Procedure). slice_get q.code at.frame.position.place) own ∙ st.instr ∙ ap Some is) in
            (goes_at (data_instr d (context_of s at.frame)) (LeftSo program typings s held a at.frame st.frame k.procedure k.here) c (k.turn.by_data d same) e).settles.others

        by : (at : RunningInstr) → IsRunningAt program a s at → (i : Instr) → at.instr ≡ i → IfWent (call_by program s a at i) (Lasts s)
        by at st (instr.Local i) is = record { is = tt }
        by at st (instr.Data d) is = if_ok (data_instr d (context_of s at.frame)) (λ c e. record {
          is = record {
            store = left at st d c is e;
            outputs = refl;
            running = frame_again a at.frame _ s.next_task st.frame refl (omega arith);
          };
        })
        by at st (instr.Rule action) is = if_ok (called program at.procedure.kind (context_of s at.frame) action) (λ call e. record {
          is = record {
            store = undisturbed_itself s.store;
            outputs = refl;
            running = frame_again a at.frame _ s.next_task st.frame refl (omega arith);
          };
        })
        by at st (instr.Put action) is = if_ok (put_called program at.procedure.kind (context_of s at.frame) action) (λ call e. record {
          is = record {
            store = undisturbed_itself s.store;
            outputs = refl;
            running = frame_again a at.frame _ (s.next_task + 1) st.frame refl (omega arith);
          };
        })
        by at st instr.Ret is = record { is = tt }

    subscribed_lasts : (id : ℕ) (x : Datum) (sub : Subscriber) → get s.store.live id ≡ Some x → Undisturbed s.store (subscribed s.store id sub)
    subscribed_lasts id x sub there = rw there (subscribed_undisturbed program typings s id x there sub)

    -- one event
    pub step_lasts : (layout : ActorCounts) (event : Event) → IfWent (step program layout event s) (Lasts s)
    unfolding step
    step_lasts layout (Take actor) = take_leaves program actor s layout (λ e frame first begun. record {
      store = undisturbed_itself s.store;
      outputs = refl;
      running = λ h. running_put s.frames actor frame s.next_task
          (let same = ok_of (frame_of program e.0 e.1) _ frame (number_is program e.0 e.1) begun in let less = held.numbers.tasks e.0 e.1 (best_waits actor s.tasks e first) in omega (arith, same)) h;
    })
    step_lasts layout (Local actor n) = local_leaves program actor s n (λ frame at some here. record {
      store = undisturbed_itself s.store;
      outputs = refl;
      running = frame_again actor frame _ s.next_task here refl (omega arith);
    })
    step_lasts layout (Call actor) = called_lasts actor
    step_lasts layout (End actor) = end_leaves program actor s (record {
      store = undisturbed_itself s.store;
      outputs = refl;
      running = λ h b g at. h b g (before_removal actor_cmp_total actor_cmp-IsAntisymmetric s.frames actor b g at).1;
    })
    step_lasts layout (Ask engine rule parameter) = ask_leaves s engine rule parameter
        (λ r id x asked. record { store = undisturbed_itself s.store; outputs = refl; running = λ h. h })
        (λ r id x asked. record { store = subscribed_lasts id x (record { rule = rule; parameter = parameter }) asked.live; outputs = refl; running = λ h. h })
    step_lasts layout (Deliver server datum rule parameter) = deliver_leaves s layout server (record { datum = datum; rule = rule; parameter = parameter })
        (λ has gone. record { store = undisturbed_itself s.store; outputs = refl; running = λ h. h })
        (λ r has there. record { store = undisturbed_itself s.store; outputs = refl; running = λ h. h })
    step_lasts layout (Release engine rule) = release_leaves s program engine rule (λ r p pending settled. record {
      store = undisturbed_itself s.store;
      outputs = refl;
      running = λ h b g at. let l = h b g at in omega arith;
    })

  -- all of them, one after the other
  pub run_lasts : (layout : ActorCounts) (events : List Event) (s t : State) → IsHeld program typings s → run program layout events s ≡ Went t → Lasts s t
  unfolding run
  run_lasts layout [] s t held e = subst (Lasts s) (same_went s t e) (record { store = undisturbed_itself s.store; outputs = refl; running = λ h. h })
  run_lasts layout (event ∷ events) s t held e =
      let one = went_first (step program layout event s) (run program layout events) t e in
      let next = keeps_went (step program layout event s) (IsHeld program typings) one.0 (step_keeps program typings layout accepted event s held) one.1 in
      lasts_after s one.0 t (went_of (step program layout event s) (Lasts s) one.0 (step_lasts s held layout event) one.1) (run_lasts layout events one.0 t next one.2)
