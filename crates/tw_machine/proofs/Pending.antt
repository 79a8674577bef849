-- Results of asking for a parameter of a rule, and of releasing a rule.
use Rattle.tw_machine.proofs.Names.{Arg, Bool, Cause, Datum, Engine, Frame, Frames, IsAskOfOpen, List, NotEnabled, Procedure, RightArg, Rule, RuleTable, Stage, State, Store, Succeeds, Tables, Task, TaskTable, Trap, ValueArg, Went, ap, arith, ask_event, asked, enabled, false, get, is_closed, is_releasable, is_some, is_unasked, nat_tests, outcome_of, own_rule, procedure_of, refl, release_event, rule_released, staged, sym, task_from, task_put, true, unasked_id, with_frames, with_tables, with_task, ℕ, ◌>>=◌, ◌∙◌, ◌≡◌}
use Rattle.std.specs.Prelude.{◌==◌, Ok, Err, Option, Some, None, slice_get}
use Rattle.std.specs.Option.{ok_or}
use Rattle.tw_types.specs.declared.cause.Cause.TheVariants.{FreedDatum}
use Rattle.tw_types.specs.declared.stage.Stage.TheVariants.{Waiting, Ready}
use Rattle.tw_types.specs.StoreCalls.{subscribed}
use Rattle.tw_machine.proofs.Numbered.{staged_some}

same_is : (a b : ℕ) → a ≡ b → (a == b) ≡ true
same_is a b h = grind (arith, nat_tests)

module _ (engine number : ℕ) (s : State) where
  -- ---- the engine's own rule

  pub own_busy : is_some (get s.frames (Engine engine)) ≡ true → own_rule engine number s ≡ NotEnabled
  own_busy busy = by (get s.frames (Engine engine)) refl busy
    where
      by : (o : Option Frame) → get s.frames (Engine engine) ≡ o → is_some o ≡ true → own_rule engine number s ≡ NotEnabled
      by None e b = cc
      by (Some f) e b = rw e refl

  pub own_is : (rule : Rule) → is_some (get s.frames (Engine engine)) ≡ false → get s.rules number ≡ Some rule → rule.engine ≡ engine → own_rule engine number s ≡ Went rule
  own_is rule free there own = by (get s.frames (Engine engine)) refl free
    where
      by : (o : Option Frame) → get s.frames (Engine engine) ≡ o → is_some o ≡ false → own_rule engine number s ≡ Went rule
      by None e b = rw (e, there, same_is rule.engine engine own) refl
      by (Some f) e b = cc

  own_there : (rule : Rule) → own_rule engine number s ≡ Went rule → get s.rules number ≡ Some rule
  own_there rule own = by (get s.frames (Engine engine)) (get s.rules number) refl refl own
    where
      by : (o : Option Frame) (r : Option Rule) → get s.frames (Engine engine) ≡ o → get s.rules number ≡ r → own_rule engine number s ≡ Went rule → get s.rules number ≡ Some rule
      by (Some f) r e there h = let no : own_rule engine number s ≡ NotEnabled = rw e refl in cc
      by None None e there h = let no : own_rule engine number s ≡ NotEnabled = rw (e, there) refl in cc
      by None (Some x) e there h = at (x.engine == engine) refl
        where
          at : (b : Bool) → (x.engine == engine) ≡ b → get s.rules number ≡ Some rule
          at true is = let yes' : own_rule engine number s ≡ Went x = rw (e, there, is) refl in cc
          at false is = let no : own_rule engine number s ≡ NotEnabled = rw (e, there, is) refl in cc

  -- ---- asking

  pub ask_other : (parameter : ℕ) → own_rule engine number s ≡ NotEnabled → ask_event engine number parameter s ≡ NotEnabled
  ask_other parameter own = rw own refl

  module _ (parameter : ℕ) (rule : Rule) (own : own_rule engine number s ≡ Went rule) where
    ask_by : ask_event engine number parameter s ≡ (enabled (unasked_id rule parameter) >>= λ id. outcome_of (ok_or (get s.store.live id) FreedDatum) >>= λ x. Went (asked s number rule parameter id x))
    ask_by = by (slice_get rule.stages parameter) refl
      where
        at : (stage : Stage) (b : Bool) (a : Option Arg) → slice_get rule.stages parameter ≡ Some stage → is_unasked stage ≡ b → slice_get rule.args parameter ≡ a
            → ask_event engine number parameter s ≡ (enabled (unasked_id rule parameter) >>= λ id. outcome_of (ok_or (get s.store.live id) FreedDatum) >>= λ x. Went (asked s number rule parameter id x))
        at stage false a here is arg = rw (own, here, is) refl
        at stage true None here is arg = rw (own, here, is, arg) refl
        at stage true (Some (ValueArg v)) here is arg = rw (own, here, is, arg) refl
        at stage true (Some (RightArg id)) here is arg = rw (own, here, is, arg) refl

        by : (o : Option Stage) → slice_get rule.stages parameter ≡ o
            → ask_event engine number parameter s ≡ (enabled (unasked_id rule parameter) >>= λ id. outcome_of (ok_or (get s.store.live id) FreedDatum) >>= λ x. Went (asked s number rule parameter id x))
        by None here = rw (own, here) refl
        by (Some stage) here = at stage (is_unasked stage) (slice_get rule.args parameter) here refl refl

    pub ask_settled : unasked_id rule parameter ≡ None → ask_event engine number parameter s ≡ NotEnabled
    ask_settled none = ask_by ∙ rw none refl

    module _ (id : ℕ) (some : unasked_id rule parameter ≡ Some id) where
      pub ask_freed : get s.store.live id ≡ None → ask_event engine number parameter s ≡ Trap FreedDatum
      ask_freed freed = ask_by ∙ rw (some, freed) refl

      ask_goes : (x : Datum) → get s.store.live id ≡ Some x → ask_event engine number parameter s ≡ Went (asked s number rule parameter id x)
      ask_goes x live = ask_by ∙ rw (some, live) refl

  -- ---- releasing

  pub release_other : (program : List Procedure) → own_rule engine number s ≡ NotEnabled → release_event program engine number s ≡ NotEnabled
  release_other program own = rw own refl

  module _ (program : List Procedure) (rule : Rule) (own : own_rule engine number s ≡ Went rule) where
    pub release_held : is_releasable rule ≡ false → release_event program engine number s ≡ NotEnabled
    release_held held = rw (own, held) refl

    module _ (ready : is_releasable rule ≡ true) where
      release_by : release_event program engine number s ≡ (outcome_of (procedure_of program rule.procedure) >>= λ p. Went (with_task (record s { rules = (rule_released (record { pending = s.rules; next = s.next_rule }) number).pending }) (task_from p.kind rule)))
      release_by = rw (own, ready) refl

      pub release_stopped : (q : ℕ) (cause : Cause) → q ≡ rule.procedure → procedure_of program q ≡ Err cause → release_event program engine number s ≡ Trap cause
      release_stopped q cause same fails = release_by ∙ rw (ap (procedure_of program) (sym same) ∙ fails) refl

      pub release_goes : (q : ℕ) (p : Procedure) → q ≡ rule.procedure → procedure_of program q ≡ Ok p
          → release_event program engine number s ≡ Went (with_task (record s { rules = (rule_released (record { pending = s.rules; next = s.next_rule }) number).pending }) (task_from p.kind rule))
      release_goes q p same here = release_by ∙ rw (ap (procedure_of program) (sym same) ∙ here) refl

-- ---- the same for tables

module _ (engine number : ℕ) (s : State) (t : Tables) (frames : Frames) where
  abbrev state : Tables → State
  state u = with_frames (with_tables s u) frames

  module _ (rule : Rule) (own : own_rule engine number (state t) ≡ Went rule) where
    module _ (parameter id : ℕ) (some : unasked_id rule parameter ≡ Some id) (x : Datum) (live : get t.store.live id ≡ Some x) where
      pub closed_asked : (now : RuleTable) → is_closed x ≡ true → now ≡ staged t.rules number parameter Ready → ask_event engine number parameter (state t) ≡ Went (state (record t { rules = now }))
      closed_asked now closed is =
          ask_goes engine number (state t) parameter rule own id some x live
          ∙ rw closed (ap (λ (r : RuleTable). Went (state (record t { rules = r }))) (staged_some t.rules parameter Ready number number rule refl (own_there engine number (state t) rule own) ∙ sym is))

      pub open_asked : (left : Store) (now : RuleTable) → is_closed x ≡ false → left ≡ subscribed t.store id (record { rule = number; parameter = parameter }) → now ≡ staged t.rules number parameter Waiting
          → ask_event engine number parameter (state t) ≡ Went (state (record t { store = left; rules = now }))
      open_asked left now closed heard is =
          ask_goes engine number (state t) parameter rule own id some x live
          ∙ rw (closed, heard) (ap (λ (r : RuleTable). Went (state (record t { store = subscribed t.store id (record { rule = number; parameter = parameter }); rules = r }))) (staged_some t.rules parameter Waiting number number rule refl (own_there engine number (state t) rule own) ∙ sym is))

    module _ (parameter id : ℕ) (some : unasked_id rule parameter ≡ Some id) (x : Datum) (live : get t.store.live id ≡ Some x) where
      pub asks_open : is_closed x ≡ false → IsAskOfOpen engine number parameter (state t)
      asks_open closed = (rule, id, x, ask_goes engine number (state t) parameter rule own id some x live, closed)

    pub releases : (program : List Procedure) (q : ℕ) (p : Procedure) → is_releasable rule ≡ true → q ≡ rule.procedure → procedure_of program q ≡ Ok p → Succeeds (release_event program engine number (state t))
    releases program q p ready same here = rw (release_goes engine number (state t) program rule own ready q p same here) tt

    pub released : (program : List Procedure) (q : ℕ) (p : Procedure) (task : Task) (tasks : TaskTable) (rules : RuleTable) → is_releasable rule ≡ true → q ≡ rule.procedure → procedure_of program q ≡ Ok p
        → task ≡ task_from p.kind rule → tasks ≡ task_put t.tasks task → rules ≡ rule_released t.rules number
        → release_event program engine number (state t) ≡ Went (state (record t { rules = rules; tasks = tasks }))
    released program q p task tasks rules ready same here is put gone =
        release_goes engine number (state t) program rule own ready q p same here
        ∙ ap (λ (r : RuleTable). Went (state (record t { rules = r; tasks = task_put t.tasks (task_from p.kind rule) }))) (sym gone)
        ∙ ap (λ (u : TaskTable). Went (state (record t { rules = rules; tasks = u }))) (sym (put ∙ ap (task_put t.tasks) is))
