-- The numbers in a run's events are small enough to be read back.
use Rattle.std.proofs.Common.{◌≡◌, ◌<◌, ◌≤◌, ◌+◌, ◌^◌, ◌==◌, ℕ, zero, suc, Bool, true, false, cond, ◌&&◌, nat_lt, is_none, List, [], ◌∷◌, length, Option, Some, None, slice_get, refl, sym, subst, ◌∙◌, arith}
use Rattle.std.specs.Cmp.{Equal-is, nat_cmp_total}
use Rattle.std.specs.FinMap.{empty, get, insert, remove, get-empty, get-insert, get-remove}
use Rattle.std.specs.FinSet as set
use Rattle.std.specs.Int.{IsInRange}
use Rattle.std.specs.List.{AllByRecursion}
use Rattle.std.specs.Ordering.{eq_by_cmp, nat_cmp}
use Rattle.std.proofs.lemmas.Bool.{and_parts}
use Rattle.std.proofs.lemmas.Bool.Decides.{nat_tests}
use Rattle.std.proofs.lemmas.Option.{slice_get_within}
use Rattle.tw_types.specs.declared.actor.Actor.{Actor}
use Rattle.tw_types.specs.declared.actor.Actor.TheVariants.{Engine, Server, Worker}
use Rattle.tw_types.specs.declared.event.Event.{Event}
use Rattle.tw_types.specs.declared.event.Event.TheVariants.{Take, Local, Call, End, Ask, Deliver, Release}
use Rattle.tw_types.specs.declared.input.Input.{Input}
use Rattle.tw_types.specs.declared.param.Param.{Param}
use Rattle.tw_types.specs.declared.stage.Stage.{Stage}
use Rattle.tw_types.specs.declared.stage.Stage.TheVariants.{Ready, Waiting}
use Rattle.tw_types.specs.Actor.{actor_cmp, is_in, number_in_kind}
use Rattle.tw_types.specs.Layout.{ActorCounts, IsLayout}
use Rattle.tw_types.specs.Outcome.{Outcome, Went, NotEnabled, Trap, enabled, only_if}
use Rattle.tw_types.specs.Rule.{Rule, at_stage}
use Rattle.tw_types.specs.Store.{Store, server_of}
use Rattle.tw_types.specs.StoreCalls.{subscribed}
use Rattle.tw_types.specs.Task.{Arg, RightArg, best}
use Rattle.tw_types.proofs.ActorOrder.{actor_cmp-IsAntisymmetric, actor_cmp_total}
use Rattle.tw_types.proofs.Each.{each_empty, each_insert, each_remove}
use Rattle.tw_types.proofs.Outcomes.{IfWent, if_both, if_enabled, if_ok, if_only, went_after, went_enabled, went_first, went_of, went_only}
use Rattle.tw_code.specs.declared.procedure.Procedure.{Procedure}
use Rattle.tw_code.specs.format.Program.{IsProcedure, IsProgram}
use Rattle.tw_code.specs.machine.Bounds.{AreNumbersBelow}
use Rattle.tw_code.specs.machine.Holders.{Typings}
use Rattle.tw_code.specs.machine.Machine.{RunningInstr, call_by, call_event, local_event, own_rule, run, running_instr_of, step}
use Rattle.tw_code.specs.machine.Opening.{opening}
use Rattle.tw_code.specs.machine.Rights.{RightType}
use Rattle.tw_code.specs.machine.State.{Frame, Frames, State, frame_of, new_rule, with_stage}
use Rattle.tw_code.specs.machine.Waiting.{arg_at}
use Rattle.tw_soundness.proofs.Accepted.{all_found}
use Rattle.tw_code.proofs.Growth.{numbers_wider, step_grows}
use Rattle.tw_code.proofs.Leaving.{ask_leaves, call_leaves, deliver_leaves, end_leaves, is_running_at, local_leaves, owned, release_leaves}
use Rattle.tw_soundness.specs.InOrder.{right_until}
use Rattle.tw_soundness.specs.Invariant.{ArgFits, IsHeld, RuleArgsFit}
use Rattle.tw_soundness.specs.NoTrap.{AreRight}
use Rattle.tw_soundness.proofs.Along.{event_small}
use Rattle.tw_soundness.proofs.Safe.{kept_by}
use Rattle.tw_report.specs.Events.{IsByte, IsEvent}

-- ---- actors

-- the actors of running tasks and of pending rules have small numbers
pub record AreActorsFew (s : State) : Type 0 where
  pub frames : (actor : Actor) (frame : Frame) → get s.frames actor ≡ Some frame → number_in_kind actor < 256
  pub rules : (number : ℕ) (rule : Rule) → get s.rules number ≡ Some rule → rule.engine < 256

few_in : (layout : ActorCounts) (actor : Actor) → IsLayout layout → is_in layout actor ≡ true → number_in_kind actor < 256
few_in layout (Engine n) laid there = let h = laid.few_engines in grind (arith, nat_tests, h, there)
few_in layout (Server n) laid there = let h = laid.few_servers in grind (arith, nat_tests, h, there)
few_in layout (Worker n) laid there = let h = laid.few_workers in grind (arith, nat_tests, h, there)

abbrev FewAt : Frames → Type 0
FewAt frames = (actor : Actor) (frame : Frame) → get frames actor ≡ Some frame → number_in_kind actor < 256

framed : (frames : Frames) (actor : Actor) (frame : Frame) → FewAt frames → number_in_kind actor < 256 → FewAt (insert frames actor frame)
framed frames actor frame few small other f e = by (eq_by_cmp actor_cmp other actor) refl (sym (get-insert actor_cmp_total frames actor frame other) ∙ e)
  where
    by : (b : Bool) → eq_by_cmp actor_cmp other actor ≡ b → cond b (Some frame) (get frames other) ≡ Some f → number_in_kind other < 256
    by true same is = subst (λ (a : Actor). number_in_kind a < 256) (sym (actor_cmp-IsAntisymmetric other actor ((Equal-is (actor_cmp other actor)).0 same))) small
    by false same is = few other f is

unframed : (frames : Frames) (actor : Actor) → FewAt frames → FewAt (remove frames actor)
unframed frames actor few other f e = by (eq_by_cmp actor_cmp other actor) (sym (get-remove actor_cmp_total frames actor other) ∙ e)
  where
    by : (b : Bool) → cond b None (get frames other) ≡ Some f → number_in_kind other < 256
    by true is = cc
    by false is = few other f is

-- of a rule
abbrev IsOfFew : Rule → Type 0
IsOfFew rule = rule.engine < 256

-- one frame more, and the rules as they are
running : (s : State) (actor : Actor) (frame : Frame) → AreActorsFew s → number_in_kind actor < 256 → FewAt (insert s.frames actor frame)
running s actor frame few small = framed s.frames actor frame few.frames small

staged : (s : State) (number parameter : ℕ) (rule : Rule) (stage : Stage) → AreActorsFew s → get s.rules number ≡ Some rule → AreActorsFew (with_stage s number rule parameter stage)
staged s number parameter rule stage few there = record {
  frames = few.frames;
  rules = each_insert nat_cmp_total IsOfFew s.rules few.rules number (at_stage rule parameter stage) (few.rules number rule there);
}

actors_few : (program : List Procedure) (layout : ActorCounts) → IsLayout layout → (event : Event) (s : State) → AreActorsFew s → IfWent (step program layout event s) AreActorsFew
unfolding step
actors_few program layout laid (Take actor) s few =
    if_only (is_in layout actor && is_none (get s.frames actor)) (λ both.
    if_enabled (best actor s.tasks) (λ e first.
    if_ok (frame_of program e.0 e.1) (λ frame begun.
    record { is = record { frames = running s actor frame few (few_in layout actor laid (and_parts (is_in layout actor) (is_none (get s.frames actor)) both).0); rules = few.rules } })))
actors_few program layout laid (Local actor n) s few =
    local_leaves program actor s n (λ frame at some here. record { frames = running s actor _ few (few.frames actor frame here); rules = few.rules })
actors_few program layout laid (Call actor) s few = call_leaves program actor s
    (λ at i c here went. record { frames = running s actor _ few (few.frames actor at.frame here.frame); rules = few.rules })
    (λ at action call here went.
    let small = few.frames actor at.frame here.frame in
    record { frames = running s actor _ few small; rules = each_insert nat_cmp_total IsOfFew s.rules few.rules s.next_rule (new_rule (number_in_kind actor) call.params call.task) small })
    (λ at action call here went. record { frames = running s actor _ few (few.frames actor at.frame here.frame); rules = few.rules })
actors_few program layout laid (End actor) s few = end_leaves program actor s (record { frames = unframed s.frames actor few.frames; rules = few.rules })
actors_few program layout laid (Ask engine number parameter) s few = ask_leaves s engine number parameter
    (λ rule id x u. staged s number parameter rule Ready few u.pending)
    (λ rule id x u. staged (record s { store = subscribed s.store id (record { rule = number; parameter = parameter }) }) number parameter rule Waiting (record { frames = few.frames; rules = few.rules }) u.pending)
actors_few program layout laid (Deliver server datum rule parameter) s few = deliver_leaves s layout server (record { datum = datum; rule = rule; parameter = parameter })
    (λ has none. record { frames = few.frames; rules = few.rules })
    (λ r has there. staged (record s { notices = set.remove s.notices (record { datum = datum; rule = rule; parameter = parameter }) }) rule parameter r Ready (record { frames = few.frames; rules = few.rules }) there)
actors_few program layout laid (Release engine number) s few = release_leaves s program engine number (λ rule p there settled. record { frames = few.frames; rules = each_remove nat_cmp_total IsOfFew s.rules few.rules number })

pub opened_few : (program : List Procedure) (inputs : List Input) → AreActorsFew (opening program inputs)
unfolding opening
opened_few program inputs = record {
  frames = λ actor frame e. let none : get (empty {X = Frame} {R = actor_cmp}) actor ≡ None = get-empty actor_cmp actor in absurd cc;
  rules = each_empty nat_cmp IsOfFew;
}

-- ---- the arguments of a rule

fit_lengths : (s : Store) (params : List Param) (stages : List Stage) (args : List Arg) → RuleArgsFit s params stages args → (length stages ≡ length params) × (length args ≡ length params)
fit_lengths s [] [] [] h = (refl, refl)
fit_lengths s [] [] (arg ∷ args) h = absurd h
fit_lengths s [] (stage ∷ stages) args h = absurd h
fit_lengths s (p ∷ params) [] args h = absurd h
fit_lengths s (p ∷ params) (stage ∷ stages) [] h = absurd h
fit_lengths s (p ∷ params) (stage ∷ stages) (arg ∷ args) h = let rest = fit_lengths s params stages args h.2 in (omega (arith, rest.0), omega (arith, rest.1))

arg_given : (s : Store) (p : Param) (right : Option RightType) (id : ℕ) → ArgFits s p right (RightArg id) → id < s.next
arg_given s p None id h = absurd h
arg_given s p (Some right) id h = h.given

args_given : (s : Store) (params : List Param) (stages : List Stage) (args : List Arg) (k id : ℕ) → RuleArgsFit s params stages args → slice_get args k ≡ Some (RightArg id) → id < s.next
args_given s [] [] [] k id h e = absurd cc
args_given s [] [] (arg ∷ args) k id h e = absurd h
args_given s [] (stage ∷ stages) args k id h e = absurd h
args_given s (p ∷ params) [] args k id h e = absurd h
args_given s (p ∷ params) (stage ∷ stages) [] k id h e = absurd h
args_given s (p ∷ params) (stage ∷ stages) (arg ∷ args) zero id h e = let same : arg ≡ RightArg id = cc in arg_given s p (right_until stage p) id (subst (ArgFits s p (right_until stage p)) same h.1)
args_given s (p ∷ params) (stage ∷ stages) (arg ∷ args) (suc k) id h e = args_given s params stages args k id h.2 e

-- ---- events

any_went : {A : Type 0} (o : Outcome A) (P : Type 0) → P → IfWent o (λ _. P)
any_went (Went x) P p = record { is = p }
any_went NotEnabled P p = record { is = tt }
any_went (Trap cause) P p = record { is = tt }

own_engine : (engine number : ℕ) (s : State) (rule : Rule) → own_rule engine number s ≡ Went rule → rule.engine ≡ engine
own_engine engine number s rule = went_of (own_rule engine number s) (λ r. r.engine ≡ engine) rule
    (if_only (is_none (get s.frames (Engine engine))) (λ _. if_enabled (get s.rules number) (λ r e. if_only (r.engine == engine) (λ same. record { is = grind (arith, nat_tests, same) }))))

module _ (program : List Procedure) (typings : Typings) (is : IsProgram program) (are : AreRight program typings) (layout : ActorCounts) (laid : IsLayout layout) where
  few_params : (s : State) → IsHeld program typings s → (number : ℕ) (rule : Rule) → get s.rules number ≡ Some rule → (p : Procedure) × (length p.params ≤ 8) × RuleArgsFit s.store p.params rule.stages rule.args
  few_params s held number rule there =
      let its = held.types.procedures.rules number rule there in
      (its.0, (all_found IsProcedure program rule.procedure its.0 is.1 its.1).params.0.1, held.types.rules number rule its.0 there its.1)

  -- one event of a run
  event_small_enough : (event : Event) (s next : State) → IsHeld program typings s → AreActorsFew s → AreNumbersBelow (2 ^ 63) s → step program layout event s ≡ Went next → IsEvent event
  unfolding step
  event_small_enough (Take actor) s next held few below e =
      let both = went_only (is_in layout actor && is_none (get s.frames actor)) (went_after (only_if (is_in layout actor && is_none (get s.frames actor))) _ next e).0 in
      let small = few_in layout actor laid (and_parts (is_in layout actor) (is_none (get s.frames actor)) both).0 in
      (omega arith, omega (arith, small))
  event_small_enough (Local actor n) s next held few below e =
      let small = event_small program typings is are layout (Local actor n) s next held e in
      went_of (local_event program actor n s) (λ _. IsByte (number_in_kind actor) × IsInRange 1 1000000000 n) next
      (local_leaves program actor s n (λ frame at some here. let few = few.frames actor frame here in ((omega arith, omega (arith, few)), (grind (arith, nat_tests, some), omega (arith, small))))) e
  event_small_enough (Call actor) s next held few below e =
      went_of (call_event program actor s) (λ _. IsByte (number_in_kind actor)) next
      (if_both (running_instr_of program actor s) (λ at runs. after at (few.frames actor at.frame (is_running_at program actor s at runs).frame))) e
    where
      after : (at : RunningInstr) → number_in_kind actor < 256 → IfWent (call_by program s actor at at.instr) (λ _. IsByte (number_in_kind actor))
      after at small = any_went (call_by program s actor at at.instr) (IsByte (number_in_kind actor)) (omega arith, omega (arith, small))
  event_small_enough (End actor) s next held few below e =
      let at = went_first (running_instr_of program actor s) _ next e in
      let small = few.frames actor at.0.frame (is_running_at program actor s at.0 at.1).frame in
      (omega arith, omega (arith, small))
  event_small_enough (Ask engine number parameter) s next held few below e =
      let own = went_first (own_rule engine number s) _ next e in
      let there = owned engine number s own.0 own.1 in
      let stage = went_first (enabled (slice_get own.0.stages parameter)) _ next own.2 in
      let its = few_params s held number own.0 there in
      let within = slice_get_within own.0.stages parameter stage.0 (went_enabled (slice_get own.0.stages parameter) stage.0 stage.1) in
      let lengths = fit_lengths s.store its.0.params own.0.stages own.0.args its.2 in
      let engines = own_engine engine number s own.0 own.1 in
      let few = few.rules number own.0 there in
      let used = held.numbers.rules number own.0 there in
      ((omega arith, omega (arith, few, engines)), (omega arith, omega (arith, used, below.rule)), (omega arith, omega (arith, within, lengths.0, its.1)))
  event_small_enough (Deliver server datum rule parameter) s next held few below e =
      let first = went_after (only_if (nat_lt server layout.servers && (server_of layout.servers datum == server))) _ next e in
      let mine = (and_parts (nat_lt server layout.servers) (server_of layout.servers datum == server) (went_only (nat_lt server layout.servers && (server_of layout.servers datum == server)) first.0)).0 in
      let has = went_only (set.contains s.notices (record { datum = datum; rule = rule; parameter = parameter })) (went_after (only_if (set.contains s.notices (record { datum = datum; rule = rule; parameter = parameter }))) _ next first.1).0 in
      let noticed = (held.notices.notices (record { datum = datum; rule = rule; parameter = parameter }) has).0 in
      let few_servers = laid.few_servers in
      by (get s.rules rule) refl noticed (grind (arith, nat_tests, mine, few_servers))
    where
      by : (found : Option Rule) → get s.rules rule ≡ found → arg_at found parameter ≡ Some (RightArg datum) → server < 256 → IsEvent (Deliver server datum rule parameter)
      by None there at small = cc
      by (Some r) there at small =
          let its = few_params s held rule r there in
          let within = slice_get_within r.args parameter (RightArg datum) at in
          let lengths = fit_lengths s.store its.0.params r.stages r.args its.2 in
          let used = held.numbers.rules rule r there in
          let given = args_given s.store its.0.params r.stages r.args parameter datum its.2 at in
          ((omega arith, omega (arith, small)), (omega arith, omega (arith, given, below.datum)), (omega arith, omega (arith, used, below.rule)), (omega arith, omega (arith, within, lengths.1, its.1)))
  event_small_enough (Release engine number) s next held few below e =
      let own = went_first (own_rule engine number s) _ next e in
      let there = owned engine number s own.0 own.1 in
      let engines = own_engine engine number s own.0 own.1 in
      let few = few.rules number own.0 there in
      let used = held.numbers.rules number own.0 there in
      ((omega arith, omega (arith, few, engines)), (omega arith, omega (arith, used, below.rule)))

  -- the events from a state on
  pub events_small : (events : List Event) (bound : ℕ) (s t : State) → IsHeld program typings s → AreActorsFew s → AreNumbersBelow bound s → bound + length events ≤ 2 ^ 63 → run program layout events s ≡ Went t → AllByRecursion IsEvent events
  unfolding run
  events_small [] bound s t held few below room e = tt
  events_small (event ∷ events) bound s t held few below room e =
      let one = went_first (step program layout event s) (run program layout events) t e in (
        event_small_enough event s one.0 held few (numbers_wider bound (2 ^ 63) s (omega (arith, room)) below) one.1,
        events_small events (bound + 1) one.0 t (kept_by program typings layout event s one.0 is are held one.1) (went_of (step program layout event s) AreActorsFew one.0 (actors_few program layout laid event s few) one.1)
            ((step_grows program layout event).numbers bound s one.0 below one.1) (omega (arith, room)) one.2,
      )
