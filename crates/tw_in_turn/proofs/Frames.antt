-- Events don't change the running tasks of other actors.
use Rattle.tw_in_turn.proofs.Names.{Actor, ActorCounts, AreBy, Bool, Event, Frame, Frames, List, None, Procedure, Some, State, Went, [], ap, arith, cond, events_of, false, few, get, get-insert, get-remove, insert, length, refl, remove, same_actor, same_went, subst, sym, the_same, true, went_first, went_of, ℕ, ◌++◌, ◌∙◌, ◌∷◌, ◌≡◌, ◌≢◌}
use Rattle.tw_types.proofs.Orders.{other_key}
use Rattle.std.specs.Cmp.{tied_itself}
use Rattle.std.specs.Ordering.{is_eq}
use Rattle.tw_types.specs.declared.event.Event.TheVariants.{Take, Local, Call, End, Ask, Deliver, Release}
use Rattle.tw_types.proofs.ActorOrder.{actor_cmp_total, actor_cmp-IsAntisymmetric}
use Rattle.tw_code.specs.machine.History.{actor_of}
use Rattle.tw_code.specs.machine.Machine.{ask_event, call_event, deliver_event, end_event, local_event, release_event, run, step, take_event}
use Rattle.tw_code.proofs.Leaving.{ask_leaves, call_leaves, deliver_leaves, end_leaves, local_leaves, release_leaves, take_leaves}

-- ---- maps by actors

put_other : (m : Frames) (a q : Actor) (f : Frame) → q ≢ a → get (insert m a f) q ≡ get m q
put_other m a q f apart = get-insert actor_cmp_total m a f q ∙ ap (λ t. cond t (Some f) (get m q)) (other_key actor_cmp-IsAntisymmetric q a apart)

left_other : (m : Frames) (a q : Actor) → q ≢ a → get (remove m a) q ≡ get m q
left_other m a q apart = get-remove actor_cmp_total m a q ∙ ap (λ t. cond t None (get m q)) (other_key actor_cmp-IsAntisymmetric q a apart)

left_own : (m : Frames) (a : Actor) → get (remove m a) a ≡ None
left_own m a = get-remove actor_cmp_total m a a ∙ ap (λ t. cond t None (get m a)) (ap is_eq (tied_itself actor_cmp_total a))

-- ---- one event

module _ (program : List Procedure) (layout : ActorCounts) (s t : State) where
  module _ (actor : Actor) where
    abbrev Same : State → Type 0
    Same u = get u.frames actor ≡ get s.frames actor

    -- nobody else's task has changed
    pub others : (event : Event) → actor ≢ actor_of event → step program layout event s ≡ Went t → Same t
    unfolding step
    others (Take a) h e = went_of (take_event program layout a s) Same t (take_leaves program a s {P = Same} layout (λ _ frame _ _. put_other s.frames a actor frame h)) e
    others (Local a n) h e = went_of (local_event program a n s) Same t (local_leaves program a s {P = Same} n (λ _ _ _ _. put_other s.frames a actor _ h)) e
    others (Call a) h e = went_of (call_event program a s) Same t
        (call_leaves program a s {P = Same} (λ _ _ _ _ _. put_other s.frames a actor _ h) (λ _ _ _ _ _. put_other s.frames a actor _ h) (λ _ _ _ _ _. put_other s.frames a actor _ h)) e
    others (End a) h e = went_of (end_event program a s) Same t (end_leaves program a s {P = Same} (left_other s.frames a actor h)) e
    others (Ask engine rule parameter) h e = went_of (ask_event engine rule parameter s) Same t (ask_leaves s {P = Same} engine rule parameter (λ _ _ _ _. refl) (λ _ _ _ _. refl)) e
    others (Deliver server datum rule parameter) h e = went_of (deliver_event layout server _ s) Same t (deliver_leaves s {P = Same} layout server _ (λ _ _. refl) (λ _ _ _. refl)) e
    others (Release engine rule) h e = went_of (release_event program engine rule s) Same t (release_leaves s {P = Same} program engine rule (λ _ _ _ _. refl)) e

  -- a task that ends is gone
  pub ended : (actor : Actor) → step program layout (End actor) s ≡ Went t → get t.frames actor ≡ None
  unfolding step
  ended actor e = went_of (end_event program actor s) (λ (u : State). get u.frames actor ≡ None) t (end_leaves program actor s {P = λ (u : State). get u.frames actor ≡ None} (left_own s.frames actor)) e

  pub ask_same : (engine rule parameter : ℕ) → step program layout (Ask engine rule parameter) s ≡ Went t → t.frames ≡ s.frames
  unfolding step
  ask_same engine rule parameter e = went_of (ask_event engine rule parameter s) (λ (u : State). u.frames ≡ s.frames) t (ask_leaves s {P = λ (u : State). u.frames ≡ s.frames} engine rule parameter (λ _ _ _ _. refl) (λ _ _ _ _. refl)) e

  pub deliver_same : (server datum rule parameter : ℕ) → step program layout (Deliver server datum rule parameter) s ≡ Went t → t.frames ≡ s.frames
  unfolding step
  deliver_same server datum rule parameter e = went_of (deliver_event layout server _ s) (λ (u : State). u.frames ≡ s.frames) t (deliver_leaves s {P = λ (u : State). u.frames ≡ s.frames} layout server _ (λ _ _. refl) (λ _ _ _. refl)) e

  pub release_same : (engine rule : ℕ) → step program layout (Release engine rule) s ≡ Went t → t.frames ≡ s.frames
  unfolding step
  release_same engine rule e = went_of (release_event program engine rule s) (λ (u : State). u.frames ≡ s.frames) t (release_leaves s {P = λ (u : State). u.frames ≡ s.frames} program engine rule (λ _ _ _ _. refl)) e

-- ---- events, one after the other

module _ (program : List Procedure) (layout : ActorCounts) where
  -- events after others start from the state that these reach
  pub run_after : (history es : List Event) (s t u : State) → run program layout history s ≡ Went t → run program layout (history ++ es) s ≡ Went u → run program layout es t ≡ Went u
  unfolding run
  run_after [] es s t u e f = subst (λ x. run program layout es x ≡ Went u) (same_went s t e) f
  run_after (first ∷ history) es s t u e f =
      let one = went_first (step program layout first s) (run program layout history) t e in
      let two = went_first (step program layout first s) (run program layout (history ++ es)) u f in
      let same : two.0 ≡ one.0 = same_went two.0 one.0 (sym two.1 ∙ one.1) in
      run_after history es one.0 t u one.2 (subst (λ x. run program layout (history ++ es) x ≡ Went u) same two.2)

  pub nothing : (s t : State) → run program layout [] s ≡ Went t → s ≡ t
  unfolding run
  nothing s t e = same_went s t e

  pub first_of : (e : Event) (es : List Event) (s t : State) → run program layout (e ∷ es) s ≡ Went t → (u : State) × (step program layout e s ≡ Went u) × (run program layout es u ≡ Went t)
  unfolding run
  first_of e es s t f = went_first (step program layout e s) (run program layout es) t f

  pub only_one : (e : Event) (s t : State) → run program layout (e ∷ []) s ≡ Went t → step program layout e s ≡ Went t
  only_one e s t f = let one = first_of e [] s t f in one.1 ∙ ap Went (nothing one.0 t one.2)

-- ---- events of one actor

tail_is : (e : Event) (xs ys : List Event) → e ∷ xs ≡ e ∷ ys → xs ≡ ys
tail_is e xs ys is = cc

pub all_by : (actor : Actor) (es : List Event) → events_of actor es ≡ es → AreBy actor es
all_by actor [] own = tt
all_by actor (e ∷ es) own = by (same_actor (actor_of e) actor) refl own (all_by actor es)
  where
    by : (b : Bool) → same_actor (actor_of e) actor ≡ b → cond b (e ∷ events_of actor es) (events_of actor es) ≡ e ∷ es → (events_of actor es ≡ es → AreBy actor es) → AreBy actor (e ∷ es)
    by true is own rest = (the_same (actor_of e) actor is, rest (tail_is e (events_of actor es) es own))
    by false is own rest = let long = ap (λ xs. length xs) own in let low = few actor es in absurd (omega (arith, long, low))

module _ (program : List Procedure) (layout : ActorCounts) (own other : Actor) (apart : other ≢ own) where
  pub others_all : (es : List Event) (s t : State) → AreBy own es → run program layout es s ≡ Went t → get t.frames other ≡ get s.frames other
  others_all [] s t by e = ap (λ (u : State). get u.frames other) (sym (nothing program layout s t e))
  others_all (e ∷ es) s t by f =
      let one = first_of program layout e es s t f in
      others_all es one.0 t by.1 one.2 ∙ others program layout s one.0 other e (λ is. apart (is ∙ by.0)) one.1
