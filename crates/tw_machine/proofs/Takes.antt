-- Results of a Take.
use Rattle.tw_machine.proofs.Names.{Actor, ActorCounts, Cause, Err, Frame, IsEnabled, IsStopped, List, MayFail, None, NotEnabled, Ok, Option, Procedure, Result, Some, State, Task, Went, ap, best, fails_then, false, frame_of, get, is_in, is_some, outcome_of, refl, remove, stopped_by, subst, sym, take_event, true, with_frame, ℕ, ◌>>=◌, ◌∙◌, ◌≡◌}
use Rattle.tw_instr.specs.declared.failure.Failure.{Failure}

-- the state without a task
abbrev pub without : State → ℕ → State
without s number = record s { tasks = remove s.tasks number }

module _ (program : List Procedure) (layout : ActorCounts) (actor : Actor) (s : State) where
  pub take_outside : is_in layout actor ≡ false → take_event program layout actor s ≡ NotEnabled
  take_outside out = rw out refl

  module _ (inside : is_in layout actor ≡ true) where
    pub take_busy : is_some (get s.frames actor) ≡ true → take_event program layout actor s ≡ NotEnabled
    take_busy busy = by (get s.frames actor) refl busy
      where
        by : (o : Option Frame) → get s.frames actor ≡ o → is_some o ≡ true → take_event program layout actor s ≡ NotEnabled
        by None e b = cc
        by (Some f) e b = rw (inside, e) refl

    module _ (free : is_some (get s.frames actor) ≡ false) where
      begins : (e : ℕ × Task) → best actor s.tasks ≡ Some e
          → take_event program layout actor s ≡ (outcome_of (frame_of program e.0 e.1) >>= λ frame. Went (with_frame (without s e.0) actor frame))
      begins e first = by (get s.frames actor) refl free
        where
          by : (o : Option Frame) → get s.frames actor ≡ o → is_some o ≡ false
              → take_event program layout actor s ≡ (outcome_of (frame_of program e.0 e.1) >>= λ frame. Went (with_frame (without s e.0) actor frame))
          by None is b = rw (inside, is, first) refl
          by (Some f) is b = cc

      pub take_none : best actor s.tasks ≡ None → take_event program layout actor s ≡ NotEnabled
      take_none empty = by (get s.frames actor) refl free
        where
          by : (o : Option Frame) → get s.frames actor ≡ o → is_some o ≡ false → take_event program layout actor s ≡ NotEnabled
          by None is b = rw (inside, is, empty) refl
          by (Some f) is b = cc

      pub take_stopped : (e : ℕ × Task) (why : Failure) → best actor s.tasks ≡ Some e → MayFail (frame_of program e.0 e.1) why → IsStopped (take_event program layout actor s) (stopped_by why)
      take_stopped e why first fails = subst (λ o. IsStopped o (stopped_by why)) (sym (begins e first)) (fails_then _ _ why fails)

      pub take_enabled : (e : ℕ × Task) → best actor s.tasks ≡ Some e → IsEnabled (take_event program layout actor s)
      take_enabled e first = by (frame_of program e.0 e.1) (begins e first)
        where
          by : (r : Result Frame Cause) → take_event program layout actor s ≡ (outcome_of r >>= λ frame. Went (with_frame (without s e.0) actor frame)) → IsEnabled (take_event program layout actor s)
          by (Ok frame) is = rw is tt
          by (Err cause) is = rw is tt

      pub take_goes : (e : ℕ × Task) (frame : Frame) → best actor s.tasks ≡ Some e → frame_of program e.0 e.1 ≡ Ok frame
          → take_event program layout actor s ≡ Went (with_frame (without s e.0) actor frame)
      take_goes e frame first goes = begins e first ∙ ap (λ r. outcome_of r >>= λ f. Went (with_frame (without s e.0) actor f)) goes
