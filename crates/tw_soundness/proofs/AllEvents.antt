-- Any single event keeps the invariant, and doesn't trap; so do runs from the opening.
use Rattle.std.proofs.Common.{◌≡◌, ℕ, ◌+◌, ◌==◌, Bool, true, false, not, List, [], ◌∷◌, slice_get, Option, Some, None, is_none, refl, sym, ap, subst, arith}
use Rattle.tw_soundness.proofs.MachineNames.{Actor, ActorCounts, Ask, Call, Deliver, End, Event, Frame, Instr, IsAtPosition, IsHeld, Local, NotEnabled, Outcome, Position, Procedure, Release, RightLeft, Rights, RightsFit, State, Store, Take, Typing, Typings, Went, actor_cmp, actor_cmp-IsAntisymmetric, actor_cmp_total, balanced_same, before_removal, frame_reads, frame_writes, get, list_all, must, only_if, outcome_of, over, read_by, remove, typing_at, typing_of, with_frame, write_by, ◌>>◌}
use Rattle.tw_code.specs.machine.Machine.{local_event, call_event, end_event, step, run, local_steps, is_ret}
use Rattle.tw_soundness.proofs.Framed.{types_framed, budgets_framed}
use Rattle.tw_soundness.proofs.RuleEvents.{ask_keeps, deliver_keeps, release_keeps}
use Rattle.tw_soundness.proofs.Steps.{Keeps, keeps_more, waits_keeps}
use Rattle.tw_soundness.proofs.TaskEvents.{Starts, take_keeps}
use Rattle.tw_soundness.proofs.Whole.{Turn, call_keeps}
use Rattle.tw_soundness.proofs.Sums.{sum_apart, sum_replaced}

-- if all registers are empty, nothing is held
none_held : (d : ℕ) (typing : Typing) (rights : Rights) → list_all is_none typing ≡ true → (over (read_by d) typing rights ≡ 0) × (over (write_by d) typing rights ≡ 0)
none_held d [] rights e = (refl, refl)
none_held d (None ∷ typing) [] e = (refl, refl)
none_held d (None ∷ typing) (r ∷ rights) e = let h = none_held d typing rights e in (omega (arith, h.0), omega (arith, h.1))
none_held d (Some right ∷ typing) rights e = cc

pub all_empty : (m : Store) (typing : Typing) (rights : Rights) → RightsFit m typing rights → list_all is_none typing ≡ true → list_all is_none rights ≡ true
all_empty m [] [] h e = refl
all_empty m [] (r ∷ rights) h e = absurd h
all_empty m (t ∷ typing) [] h e = absurd h
all_empty m (None ∷ typing) (None ∷ rights) h e = all_empty m typing rights h.1 e
all_empty m (None ∷ typing) (Some id ∷ rights) h e = absurd h.0
all_empty m (Some right ∷ typing) (r ∷ rights) h e = cc

module _ (program : List Procedure) (typings : Typings) where
  -- facts on a running task of an accepted program, in any state with the invariant
  pub record Known (s : State) (held : IsHeld program typings s) (a : Actor) (f : Frame) (is : get s.frames a ≡ Some f) : Type 0 where
    pub procedure : Procedure
    pub here : slice_get program f.procedure ≡ Some procedure
    pub instr : Instr
    pub at : slice_get procedure.code f.position.place ≡ Some instr
    pub turn : Turn program typings s held a f is procedure here instr
    pub stops : is_ret instr ≡ true → list_all is_none (typing_of typings f) ≡ true
    pub local : (n : ℕ) → Keeps (local_steps n procedure.code f.position) (λ at. IsAtPosition procedure (f.spent + n) at × (typing_at typings f.procedure at.place ≡ typing_of typings f))

  pub record Accepted : Type 1 where
    pub starts : (k : ℕ) (p : Procedure) → slice_get program k ≡ Some p → Starts program typings k p
    pub known : (s : State) (held : IsHeld program typings s) (a : Actor) (f : Frame) (is : get s.frames a ≡ Some f) → Known s held a f is

  module _ (s : State) (held : IsHeld program typings s) (a : Actor) (f : Frame) (is : get s.frames a ≡ Some f) (k : Known s held a f is) where
    moved_held : (n : ℕ) (to : Position) → IsAtPosition k.procedure (f.spent + n) to → typing_at typings f.procedure to.place ≡ typing_of typings f → IsHeld program typings (with_frame s a (record f { position = to; spent = f.spent + n }))
    moved_held n to fits_place same = record {
      numbers = record { tasks = held.numbers.tasks; rules = held.numbers.rules };
      types = types_framed program typings s a (record f { position = to; spent = f.spent + n }) k.procedure k.here fits_place (subst (λ (t : Typing). RightsFit s.store t f.rights) (sym same) (held.types.rights a f is)) held.types;
      counts = record {
        writers = held.counts.writers;
        balanced = balanced_same s.store.live _ _ _ _ held.counts.balanced (λ d.
            let i = sum_replaced actor_cmp actor_cmp_total actor_cmp-IsAntisymmetric (frame_reads typings d) s.frames a f (record f { position = to; spent = f.spent + n }) is in
            let j = sum_replaced actor_cmp actor_cmp_total actor_cmp-IsAntisymmetric (frame_writes typings d) s.frames a f (record f { position = to; spent = f.spent + n }) is in
            let g : frame_reads typings d (record f { position = to; spent = f.spent + n }) ≡ frame_reads typings d f = ap (λ (t : Typing). over (read_by d) t f.rights) same in
            let h : frame_writes typings d (record f { position = to; spent = f.spent + n }) ≡ frame_writes typings d f = ap (λ (t : Typing). over (write_by d) t f.rights) same in
            (omega arith, omega arith));
      };
      notices = held.notices;
      budgets = budgets_framed program typings s a (record f { position = to; spent = f.spent + n }) k.procedure k.here fits_place held.budgets;
    }

    local_on : (n : ℕ) (b : Bool) → not (n == 0) ≡ b → Keeps (local_event program a n s) (IsHeld program typings)
    local_on n false e = rw e tt
    local_on n true e = rw (e, is, k.here) (keeps_more (local_steps n k.procedure.code f.position) _ _ _ (k.local n) (λ to l. moved_held n to l.0 l.1))

    ended_held : list_all is_none (typing_of typings f) ≡ true → IsHeld program typings (record s { frames = remove s.frames a })
    ended_held none = record {
      numbers = record { tasks = held.numbers.tasks; rules = held.numbers.rules };
      types = record {
        procedures = record { frames = λ b g at. held.types.procedures.frames b g ((before_removal actor_cmp_total actor_cmp-IsAntisymmetric s.frames a b g at).1); tasks = held.types.procedures.tasks; rules = held.types.procedures.rules };
        store = held.types.store;
        values = λ b g q at there. held.types.values b g q ((before_removal actor_cmp_total actor_cmp-IsAntisymmetric s.frames a b g at).1) there;
        rights = λ b g at. held.types.rights b g ((before_removal actor_cmp_total actor_cmp-IsAntisymmetric s.frames a b g at).1);
        args = held.types.args;
        rules = held.types.rules;
      };
      counts = record {
        writers = held.counts.writers;
        balanced = balanced_same s.store.live _ _ _ _ held.counts.balanced (λ d.
            let h = sum_apart actor_cmp actor_cmp_total actor_cmp-IsAntisymmetric (frame_reads typings d) s.frames a f is in
            let j = sum_apart actor_cmp actor_cmp_total actor_cmp-IsAntisymmetric (frame_writes typings d) s.frames a f is in
            let z = none_held d (typing_of typings f) f.rights none in
            (omega (arith, z.0), omega (arith, z.1)));
      };
      notices = held.notices;
      budgets = record {
        begun = λ b g q at there. held.budgets.begun b g q ((before_removal actor_cmp_total actor_cmp-IsAntisymmetric s.frames a b g at).1) there;
        within = λ b g q budget at there most. held.budgets.within b g q budget ((before_removal actor_cmp_total actor_cmp-IsAntisymmetric s.frames a b g at).1) there most;
      };
    }

    end_on : Keeps (end_event program a s) (IsHeld program typings)
    end_on = subst (λ (o : Outcome State). Keeps o (IsHeld program typings)) (sym end_is) (by (is_ret k.instr) refl)
      where
        end_is : end_event program a s ≡ (only_if (is_ret k.instr) >> (outcome_of (must (list_all is_none f.rights) RightLeft) >> Went (record s { frames = remove s.frames a })))
        end_is = rw (is, k.here, k.at) refl

        by : (b : Bool) → is_ret k.instr ≡ b → Keeps (only_if b >> (outcome_of (must (list_all is_none f.rights) RightLeft) >> Went (record s { frames = remove s.frames a }))) (IsHeld program typings)
        by false e = tt
        by true e =
            let empty = all_empty s.store (typing_of typings f) f.rights (held.types.rights a f is) (k.stops e) in
            rw empty (ended_held (k.stops e))

  module _ (layout : ActorCounts) (accepted : Accepted) where
    by_frame : (s : State) (a : Actor) (o : Outcome State) → (get s.frames a ≡ None → o ≡ NotEnabled) → ((f : Frame) → get s.frames a ≡ Some f → Keeps o (IsHeld program typings)) → Keeps o (IsHeld program typings)
    by_frame s a o none some = by (get s.frames a) refl
      where
        by : (u : Option Frame) → get s.frames a ≡ u → Keeps o (IsHeld program typings)
        by None e = waits_keeps o (IsHeld program typings) (none e)
        by (Some f) e = some f e

    local_none : (s : State) (a : Actor) (n : ℕ) (b : Bool) → not (n == 0) ≡ b → get s.frames a ≡ None → local_event program a n s ≡ NotEnabled
    local_none s a n false e none = rw e refl
    local_none s a n true e none = rw (e, none) refl

    -- one event
    pub step_keeps : (event : Event) (s : State) → IsHeld program typings s → Keeps (step program layout event s) (IsHeld program typings)
    unfolding step
    step_keeps (Take actor) s held = take_keeps program typings accepted.starts s held layout actor
    step_keeps (Local actor n) s held = by_frame s actor (local_event program actor n s) (λ none. local_none s actor n (not (n == 0)) refl none) (λ f is. local_on s held actor f is (accepted.known s held actor f is) n (not (n == 0)) refl)
    step_keeps (Call actor) s held = by_frame s actor (call_event program actor s) (λ none. rw none refl) (λ f is. let k = accepted.known s held actor f is in call_keeps program typings s held actor f is k.procedure k.here k.instr k.at k.turn)
    step_keeps (End actor) s held = by_frame s actor (end_event program actor s) (λ none. rw none refl) (λ f is. end_on s held actor f is (accepted.known s held actor f is))
    step_keeps (Ask engine rule parameter) s held = ask_keeps program typings s held engine rule parameter
    step_keeps (Deliver server datum rule parameter) s held = deliver_keeps program typings s held layout server (record { datum = datum; rule = rule; parameter = parameter })
    step_keeps (Release engine rule) s held = release_keeps program typings s held engine rule

    -- all of them, one after the other
    pub run_keeps : (events : List Event) (s : State) → IsHeld program typings s → Keeps (run program layout events s) (IsHeld program typings)
    unfolding run
    run_keeps [] s held = held
    run_keeps (event ∷ events) s held = keeps_more (step program layout event s) (run program layout events) (IsHeld program typings) (IsHeld program typings) (step_keeps event s held) (λ next kept. run_keeps events next kept)
