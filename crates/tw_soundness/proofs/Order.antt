-- The invariant of a state, in the words of the definitions that a reader has to trust.
use Rattle.std.proofs.Common.{◌≡◌, ℕ, zero, suc, List, [], ◌∷◌, slice_get, Option, Some, None, refl, sym, ap, subst, ◌∙◌}
use Rattle.tw_soundness.proofs.MachineNames.{Actor, AreRight, Arg, ArgAsDue, ArgFits, ArgsFit, Datum, Frame, HeldAsDue, Holds, IsArgOf, IsHeld, IsHeldAs, IsInOrder, IsProgram, IsTypedFrame, IsTypedRule, IsTypedTask, Param, Procedure, RightArg, RightType, Rule, RuleArgAsDue, RuleArgsFit, Scalar, Stage, State, Store, Task, Typings, Value, ValueArg, ValueAsDue, ValuesFit, get, output_rights, right_at, right_of, right_until, typing_of}
use Rattle.tw_soundness.proofs.Lasting.{AreRunning}
use Rattle.tw_soundness.proofs.Live.{notice_is_live, output_is_live, rule_is_live, task_is_live}
use Rattle.tw_soundness.proofs.Opening.{OutputsFit}
use Rattle.tw_soundness.proofs.Running.{register_holds, register_is_empty}

values_at : (registers : List Scalar) (values : List Value) → ValuesFit registers values → (k : ℕ) → ValueAsDue (slice_get registers k) (slice_get values k)
values_at [] [] h k = tt
values_at [] (x ∷ values) h k = absurd h
values_at (ty ∷ registers) [] h k = absurd h
values_at (ty ∷ registers) (x ∷ values) h zero = h.0
values_at (ty ∷ registers) (x ∷ values) h (suc k) = values_at registers values h.1 k

-- ---- live data that fit

module _ (s : Store) where
  held_as : (right : RightType) (id : ℕ) → Holds s right id → (x : Datum) × (get s.live id ≡ Some x) → IsHeldAs s right id
  held_as right id h live = record { x = live.0; live = live.1; ty = h.ty live.0 live.1; closed = h.closed live.0 live.1 }

  abbrev AreLive : List Arg → Type 0
  AreLive args = (k id : ℕ) → slice_get args k ≡ Some (RightArg id) → (x : Datum) × (get s.live id ≡ Some x)

  arg_is : (p : Param) (right : Option RightType) (arg : Arg) → ArgFits s p right arg → ((id : ℕ) → arg ≡ RightArg id → (x : Datum) × (get s.live id ≡ Some x)) → IsArgOf s p right arg
  arg_is p None (ValueArg x) h live = h
  arg_is p None (RightArg id) h live = h
  arg_is p (Some right) (ValueArg x) h live = h
  arg_is p (Some right) (RightArg id) h live = held_as right id h (live id refl)

  args_at : (params : List Param) (args : List Arg) → ArgsFit s params args → AreLive args → (k : ℕ) → ArgAsDue s (slice_get params k) (slice_get args k)
  args_at [] [] h live k = tt
  args_at [] (arg ∷ args) h live k = absurd h
  args_at (p ∷ params) [] h live k = absurd h
  args_at (p ∷ params) (arg ∷ args) h live zero = arg_is p (right_of p) arg h.0 (λ id e. live 0 id (ap Some e))
  args_at (p ∷ params) (arg ∷ args) h live (suc k) = args_at params args h.1 (λ j id e. live (suc j) id e) k

  rule_args_at : (params : List Param) (stages : List Stage) (args : List Arg) → RuleArgsFit s params stages args → AreLive args → (k : ℕ) → RuleArgAsDue s (slice_get params k) (slice_get stages k) (slice_get args k)
  rule_args_at [] [] [] h live k = tt
  rule_args_at [] [] (arg ∷ args) h live k = absurd h
  rule_args_at [] (stage ∷ stages) args h live k = absurd h
  rule_args_at (p ∷ params) [] args h live k = absurd h
  rule_args_at (p ∷ params) (stage ∷ stages) [] h live k = absurd h
  rule_args_at (p ∷ params) (stage ∷ stages) (arg ∷ args) h live zero = (h.0, arg_is p (right_until stage p) arg h.1 (λ id e. live 0 id (ap Some e)))
  rule_args_at (p ∷ params) (stage ∷ stages) (arg ∷ args) h live (suc k) = rule_args_at params stages args h.2 (λ j id e. live (suc j) id e) k

  outputs_at : (rights : List RightType) (ids : List ℕ) → OutputsFit s rights ids → ((k id : ℕ) → slice_get ids k ≡ Some id → (x : Datum) × (get s.live id ≡ Some x)) → (k : ℕ) → HeldAsDue s (slice_get rights k) (slice_get ids k)
  outputs_at [] [] h live k = tt
  outputs_at [] (id ∷ ids) h live k = absurd h
  outputs_at (right ∷ rights) [] h live k = absurd h
  outputs_at (right ∷ rights) (id ∷ ids) h live zero = held_as right id h.0 (live 0 id refl)
  outputs_at (right ∷ rights) (id ∷ ids) h live (suc k) = outputs_at rights ids h.1 (λ j d e. live (suc j) d e) k

-- ---- a state

module _ (program : List Procedure) (typings : Typings) (is : IsProgram program) (are : AreRight program typings) (s : State) (held : IsHeld program typings s) where
  register_at : (a : Actor) (f : Frame) → get s.frames a ≡ Some f → (k : ℕ) → HeldAsDue s.store (right_at (typing_of typings f) k) (right_at f.rights k)
  register_at a f runs k = by (right_at (typing_of typings f) k) refl (right_at f.rights k) refl
    where
      by : (t : Option RightType) → right_at (typing_of typings f) k ≡ t → (r : Option ℕ) → right_at f.rights k ≡ r → HeldAsDue s.store t r
      by None typed None at = tt
      by None typed (Some id) at = let free = register_is_empty program typings is are s held a f runs k typed in let no : None ≡ Some id = sym free ∙ at in cc
      by (Some right) typed r at =
          let h = register_holds program typings is are s held a f runs k right typed in
          subst (HeldAsDue s.store (Some right)) (sym h.register ∙ at) (record { x = h.x; live = h.live; ty = h.ty; closed = h.closed })

  frame_typed : (a : Actor) (f : Frame) → get s.frames a ≡ Some f → IsTypedFrame program typings s.store f
  frame_typed a f runs =
      let p = held.types.procedures.frames a f runs in
      record { procedure = p.0; here = p.1; values = values_at p.0.registers f.position.values (held.types.values a f p.0 runs p.1); rights = register_at a f runs }

  task_typed : (number : ℕ) (task : Task) → get s.tasks number ≡ Some task → IsTypedTask program s.store task
  task_typed number task waits =
      let p = held.types.procedures.tasks number task waits in
      record { procedure = p.0; here = p.1; args = args_at s.store p.0.params task.args (held.types.args number task p.0 waits p.1) (λ k id e. task_is_live program typings s held number task k id waits e) }

  rule_typed : (number : ℕ) (rule : Rule) → get s.rules number ≡ Some rule → IsTypedRule program s.store rule
  rule_typed number rule pending =
      let p = held.types.procedures.rules number rule pending in
      record { procedure = p.0; here = p.1; args = rule_args_at s.store p.0.params rule.stages rule.args (held.types.rules number rule p.0 pending p.1) (λ k id e. rule_is_live program typings s held number rule k id pending e) }

  pub in_order : AreRunning s → OutputsFit s.store (output_rights program) s.outputs → IsInOrder program typings s
  in_order running outputs = record {
    counts = held.counts.balanced;
    writers = held.counts.writers;
    types = record {
      store = held.types.store;
      frames = frame_typed;
      tasks = task_typed;
      rules = rule_typed;
      outputs = outputs_at s.store (output_rights program) s.outputs outputs (output_is_live program typings s held);
    };
    waits = record {
      once = held.notices.once;
      subscribers = held.notices.subscribers;
      notices = λ n waits.
          let waits_notified = held.notices.notices n waits in
          let live = notice_is_live program typings s held n waits in
          (waits_notified.0, (live.0, live.1, waits_notified.1 live.0 live.1));
    };
    numbers = record { ids = held.types.store.fresh; rules = held.numbers.rules; tasks = held.numbers.tasks; frames = running };
  }
