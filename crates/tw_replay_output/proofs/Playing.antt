-- Events, one after the other, in a replay.
use Rattle.std.proofs.Common.{◌≡◌, ◌+◌, ◌<◌, ◌≤◌, ℕ, zero, suc, List, [], ◌∷◌, ◌++◌, length, length-take, get_or, drop, take, Option, Some, None, refl, sym, ap, subst, ◌∙◌, add-one, drop-cons, arith}
use Rattle.tw_replay_output.proofs.ReplayNames.{◌>>=◌, AllByRecursion, AreShort, Event, Input, IsShort, IsFirstError, NotEnabled, Outcome, PlainView, Procedure, Refused, Spoken as Reply, State, Trap, Trapped, Versioned, Went, coded, drop_all, not_enabled_line, rejection_of, reply, size_of, take_all, take_more, trap_line, uncoded}
use Rattle.tw_types.specs.declared.cause.Cause.{Cause}
use Rattle.tw_types.specs.declared.event.Event.TheVariants.{Take, Local, Call, End, Ask, Deliver, Release}
use Rattle.tw_types.specs.Cause.{cause_number}
use Rattle.tw_types.specs.Layout.{ActorCounts}
use Rattle.tw_code.specs.declared.version.Version.{Version}
use Rattle.tw_code.specs.machine.Machine.{run, step}
use Rattle.tw_code.specs.machine.Opening.{opening}
use Rattle.tw_order.specs.declared.runs.ReplayOrder.{ReplayOrder}
use Rattle.tw_instr.specs.Attempts.{IsStopped}
use Rattle.tw_instr.specs.declared.stopped.Stopped.{Stopped}
use Rattle.tw_machine.specs.declared.rejection.OpenError.{OpenError}
use Rattle.tw_machine.specs.declared.rejection.OpenError.TheVariants.{NoMemory}
use Rattle.tw_report.specs.Events.{IsEvent}
use Rattle.tw_source.specs.declared.failure.Position.TheVariants as position
use Rattle.tw_replay_output.specs.Replay.{ByOutcome, IsAnswered, IsReplayed, OpensOr, after_event, opened, played, played_from, state_reply}
use Rattle.tw_replay_output.proofs.Behinds.{IsUnopened}

-- ---- one event

-- what follows the next event
here : (program : List Procedure) (layout : ActorCounts) (events : List Event) (i : ℕ) (event : Event) (s : State) → i < length events → event ≡ get_or events i event
    → played program layout (i + 1) (drop i events) s ≡ after_event (i + 1) (step program layout event s) (λ next. played program layout (i + 1 + 1) (drop (i + 1) events) next)
unfolding played
here program layout events i event s inside is =
    let one : drop i events ≡ event ∷ drop (i + 1) events = drop-cons events i event inside ∙ ap (λ (e : Event). e ∷ drop (suc i) events) (sym is) ∙ ap (λ (n : ℕ). event ∷ drop n events) (sym (add-one i)) in
    let next : suc (i + 1) ≡ i + 1 + 1 = omega arith in
    ap (λ (es : List Event). played program layout (i + 1) es s) one ∙ ap (λ (n : ℕ). after_event (i + 1) (step program layout event s) (λ t. played program layout n (drop (i + 1) events) t)) next

by_outcome : (number : ℕ) (o p : Outcome State) (next : State → Reply) → o ≡ p → after_event number o next ≡ after_event number p next
by_outcome number o p next is = ap (λ (x : Outcome State). after_event number x next) is

pub went_on : (program program' : List Procedure) (layout layout' : ActorCounts) (events : List Event) (i : ℕ) (event : Event) (s t : State) (r : Reply) → program' ≡ program → layout' ≡ layout → i < length events → event ≡ get_or events i event
    → step program layout event s ≡ Went t → played program layout (i + 1) (drop i events) s ≡ r → played program' layout' (i + 1 + 1) (drop (i + 1) events) t ≡ r
went_on program program' layout layout' events i event s t r p l inside is went before =
    ap (λ (ps : List Procedure). played ps layout' (i + 1 + 1) (drop (i + 1) events) t) p ∙ ap (λ (a : ActorCounts). played program a (i + 1 + 1) (drop (i + 1) events) t) l
    ∙ sym (here program layout events i event s inside is ∙ by_outcome (i + 1) (step program layout event s) (Went t) (λ next. played program layout (i + 1 + 1) (drop (i + 1) events) next) went) ∙ before

not_enabled : (program : List Procedure) (layout : ActorCounts) (events : List Event) (i : ℕ) (event : Event) (s : State) (r : Reply) → i < length events → event ≡ get_or events i event → step program layout event s ≡ NotEnabled
    → played program layout (i + 1) (drop i events) s ≡ r → reply (not_enabled_line (i + 1)) (Refused (uncoded (position.Event (i + 1)))) ≡ r
not_enabled program layout events i event s r inside is stopped before =
    sym (here program layout events i event s inside is ∙ by_outcome (i + 1) (step program layout event s) NotEnabled (λ next. played program layout (i + 1 + 1) (drop (i + 1) events) next) stopped) ∙ before

trapped : (program : List Procedure) (layout : ActorCounts) (events : List Event) (i : ℕ) (event : Event) (s : State) (cause : Cause) (r : Reply) → i < length events → event ≡ get_or events i event → step program layout event s ≡ Trap cause
    → played program layout (i + 1) (drop i events) s ≡ r → reply (trap_line (cause_number cause) (i + 1)) (Trapped (coded 67 (cause_number cause) (position.Event (i + 1)))) ≡ r
trapped program layout events i event s cause r inside is stopped before =
    sym (here program layout events i event s inside is ∙ by_outcome (i + 1) (step program layout event s) (Trap cause) (λ next. played program layout (i + 1 + 1) (drop (i + 1) events) next) stopped) ∙ before

pub all_played : (program : List Procedure) (layout : ActorCounts) (events : List Event) (i : ℕ) (s : State) (r : Reply) → length events ≤ i → played program layout (i + 1) (drop i events) s ≡ r → state_reply program s ≡ r
unfolding played
all_played program layout events i s r all before = sym (ap (λ (es : List Event). played program layout (i + 1) es s) (drop_all i events all)) ∙ before

-- ---- sizes

size_small : (event : Event) → IsEvent event → IsShort event
size_small (Take a) h = omega arith
size_small (Local a n) h = omega (arith, h.1.1)
size_small (Call a) h = omega arith
size_small (End a) h = omega arith
size_small (Ask e r j) h = omega arith
size_small (Deliver s d r j) h = omega arith
size_small (Release e r) h = omega arith

-- those of a trace that is read
pub all_short : (events : List Event) → AllByRecursion IsEvent events → AreShort events
all_short [] h = tt
all_short (e ∷ events) h = (size_small e h.0, all_short events h.1)

at_index : (events : List Event) (i : ℕ) (d : Event) → AreShort events → i < length events → IsShort (get_or events i d)
at_index [] i d all h = absurd (omega (arith, h))
at_index (e ∷ events) zero d all h = all.0
at_index (e ∷ events) (suc i) d all h = at_index events i d all.1 (omega (arith, h))

pub event_small : (events : List Event) (i : ℕ) (event : Event) → AreShort events → i < length events → event ≡ get_or events i event → size_of event ≤ 1000000000
event_small events i event all inside is = subst IsShort (sym is) (at_index events i event all inside)

-- ---- runs

-- the outcome of the next event, and of those after it
run_here : (program : List Procedure) (layout : ActorCounts) (events : List Event) (i : ℕ) (event : Event) (s : State) → i < length events → event ≡ get_or events i event
    → run program layout (drop i events) s ≡ (step program layout event s >>= (λ next. run program layout (drop (i + 1) events) next))
unfolding run
run_here program layout events i event s inside is =
    let one : drop i events ≡ event ∷ drop (i + 1) events = drop-cons events i event inside ∙ ap (λ (e : Event). e ∷ drop (suc i) events) (sym is) ∙ ap (λ (n : ℕ). event ∷ drop n events) (sym (add-one i)) in
    ap (λ (es : List Event). run program layout es s) one

-- like `run_here`, for this outcome
run_by : (program : List Procedure) (layout : ActorCounts) (events : List Event) (i : ℕ) (event : Event) (s : State) (o : Outcome State) → i < length events → event ≡ get_or events i event → step program layout event s ≡ o
    → run program layout (drop i events) s ≡ (o >>= (λ next. run program layout (drop (i + 1) events) next))
run_by program layout events i event s o inside is comes =
    run_here program layout events i event s inside is ∙ ap (λ (p : Outcome State). p >>= (λ next. run program layout (drop (i + 1) events) next)) comes

pub run_on : (program : List Procedure) (layout : ActorCounts) (events : List Event) (i : ℕ) (event : Event) (s t : State) (whole : Outcome State) → i < length events → event ≡ get_or events i event
    → step program layout event s ≡ Went t → run program layout (drop i events) s ≡ whole → run program layout (drop (i + 1) events) t ≡ whole
run_on program layout events i event s t whole inside is went before = sym (run_by program layout events i event s (Went t) inside is went) ∙ before

pub all_run : (program : List Procedure) (layout : ActorCounts) (events : List Event) (i : ℕ) (s : State) (whole : Outcome State) → length events ≤ i → run program layout (drop i events) s ≡ whole → whole ≡ Went s
unfolding run
all_run program layout events i s whole all before = sym before ∙ ap (λ (es : List Event). run program layout es s) (drop_all i events all)

pub by_went : (o : Outcome State) (s : State) (goes : State → Type 0) (stops : Type 0) → o ≡ Went s → goes s → ByOutcome o goes stops
by_went o s goes stops is h = subst (λ (p : Outcome State). ByOutcome p goes stops) (sym is) h

-- ---- an event that fails

-- the reply to it is that to all
pub stopped_so : (program : List Procedure) (layout : ActorCounts) (events : List Event) (i : ℕ) (event : Event) (s : State) (o : Outcome State) (r whole : Reply) → i < length events → event ≡ get_or events i event → step program layout event s ≡ o
    → ByOutcome o (λ t. ⊥) (r ≡ after_event (i + 1) o (state_reply program)) → played program layout (i + 1) (drop i events) s ≡ whole → r ≡ whole
stopped_so program layout events i event s (Went t) r whole inside is comes answered before = absurd answered
stopped_so program layout events i event s NotEnabled r whole inside is comes answered before = answered ∙ not_enabled program layout events i event s whole inside is comes before
stopped_so program layout events i event s (Trap cause) r whole inside is comes answered before = answered ∙ trapped program layout events i event s cause whole inside is comes before

-- all of them lead to no state
pub run_stopped : {stops : Type 0} (T : Type 0) (program : List Procedure) (layout : ActorCounts) (events : List Event) (i : ℕ) (event : Event) (s : State) (o whole : Outcome State) (goes : State → Type 0) → i < length events → event ≡ get_or events i event
    → step program layout event s ≡ o → ByOutcome o (λ t. ⊥) T → run program layout (drop i events) s ≡ whole → stops → ByOutcome whole goes stops
run_stopped T program layout events i event s (Went t) whole goes inside is comes answered before h = absurd answered
run_stopped {stops} T program layout events i event s NotEnabled whole goes inside is comes answered before h =
    subst (λ (p : Outcome State). ByOutcome p goes stops) (sym (run_by program layout events i event s NotEnabled inside is comes) ∙ before) h
run_stopped {stops} T program layout events i event s (Trap cause) whole goes inside is comes answered before h =
    subst (λ (p : Outcome State). ByOutcome p goes stops) (sym (run_by program layout events i event s (Trap cause) inside is comes) ∙ before) h

pub stepped : (first at : PlainView) (event : Event) (o : Outcome State) → at ≡ record first { state = at.state } → step at.program at.layout event at.state ≡ o → step first.program first.layout event at.state ≡ o
stepped first at event o stays comes = sym (ap (λ (v : PlainView). step v.program v.layout event at.state) stays) ∙ comes

-- `stopped_so` and `run_stopped`, if the program and the layout are those of the first machine
pub not_made : (first at : PlainView) (events : List Event) (i : ℕ) (event : Event) (why : Stopped) (r : Reply) (goes : State → Type 0) → at ≡ record first { state = at.state } → i < length events → event ≡ get_or events i event
    → IsStopped (step at.program at.layout event at.state) why → ((o : Outcome State) (next : State → Reply) → IsStopped o why → ByOutcome o (λ s. ⊥) (r ≡ after_event (i + 1) o next))
    → played first.program first.layout (i + 1) (drop i events) at.state ≡ played_from first events → run first.program first.layout (drop i events) at.state ≡ run first.program first.layout events first.state
    → ByOutcome (run first.program first.layout events first.state) goes (r ≡ played_from first events)
not_made first at events i event why r goes stays inside is stopped answered same runs =
    let o = step at.program at.layout event at.state in
    let comes : step first.program first.layout event at.state ≡ o = stepped first at event o stays refl in
    let here = answered o (state_reply first.program) stopped in
    run_stopped (r ≡ after_event (i + 1) o (state_reply first.program)) first.program first.layout events i event at.state o (run first.program first.layout events first.state) goes inside is comes here runs
    (stopped_so first.program first.layout events i event at.state o r (played_from first events) inside is comes here same)

-- events leave the program and the layout as they are
pub stays_so : (first at next : PlainView) → at ≡ record first { state = at.state } → next.version ≡ at.version → next.program ≡ at.program → next.layout ≡ at.layout → next ≡ record first { state = next.state }
stays_so first at next stays w p l =
    ap (λ (v : Version). record next { version = v }) (w ∙ ap (λ (v : PlainView). v.version) stays)
    ∙ ap (λ (ps : List Procedure). record { version = first.version; program = ps; layout = next.layout; state = next.state }) (p ∙ ap (λ (v : PlainView). v.program) stays)
    ∙ ap (λ (a : ActorCounts). record { version = first.version; program = first.program; layout = a; state = next.state }) (l ∙ ap (λ (v : PlainView). v.layout) stays)

-- ---- the opening

-- the machine that is opened as it is ordered
pub opened_is : (order : ReplayOrder) (program : Versioned) (inputs : List Input) (plain : PlainView) → inputs ≡ order.inputs
    → plain ≡ record { version = program.version; program = program.procedures; layout = order.layout; state = opening program.procedures inputs } → plain ≡ opened order program
opened_is order program inputs plain same is = is ∙ ap (λ (given : List Input). record (opened order program) { state = opening program.procedures given }) same

pub opened_answer : (text : Option (List ℕ)) (order : ReplayOrder) (program : Versioned) (events : List Event) (r : Reply) → rejection_of program.procedures order.inputs ≡ None → IsAnswered text order program events r
    → IsReplayed text order program events r
opened_answer text order program events r none h = subst (λ (o : Option OpenError). OpensOr text program.procedures order.inputs o (IsAnswered text order program events r) r) (sym none) h

pub refused_answer : (text : Option (List ℕ)) (program : List Procedure) (inputs : List Input) (o : Option OpenError) (why : OpenError) (Answers : Type 0) (r : Reply) → IsFirstError o why → (why ≡ NoMemory → ⊥)
    → IsUnopened text program inputs why r → OpensOr text program inputs o Answers r
refused_answer text program inputs (Some given) why Answers r answered other h = subst (λ (w : OpenError). IsUnopened text program inputs w r) answered h
refused_answer text program inputs None why Answers r answered other h = absurd (other answered)
