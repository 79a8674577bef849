-- The facts about a finished run, and its certificate.
use Rattle.tw_handles.proofs.Names.{ActorCounts, Bool, Event, Input, IsCertificate, IsLeftBy, IsLeftOf, IsOfRun, List, None, Option, Procedure, Result, Some, EndedRun, TypedProgram, Went, ap, arith, calm, certificate_of, false, if◌then◌else◌, length, option_or, own_end, reached, refl, subst, sym, true, ℕ, ◌==◌, ◌∙◌, ◌≡◌, ◌≤◌}
use Rattle.std.specs.Option.{option_map}
use Rattle.tw_types.specs.declared.ending.Ending.{Ending}
use Rattle.tw_types.specs.declared.ending.Ending.TheVariants as ending
use Rattle.tw_code.specs.machine.Ending.{ending as ending_of}
use Rattle.tw_code.specs.machine.State.{State}
use Rattle.tw_certificate.specs.FirstContest.{IsFirstContest}
use Rattle.tw_copies.specs.declared.check.CopyInsertion.{CopyInsertion}
use Rattle.tw_determinism.specs.OneResult.{IsOnlyResult, IsWholeRun}
use Rattle.tw_in_turn.specs.InTurn.{IsLeftIn}
use Rattle.tw_pool.specs.declared.answer.Closing.TheVariants.{Stopped, Limit}
use Rattle.tw_pool.specs.Openings.{MayOpen, opened}
use Rattle.tw_pool.specs.PoolView.{HasState, PoolView}
use Rattle.tw_pool.specs.Turns.{closing_of}

-- ---- the end of a run

own_ending : (e : Option Ending) (stopped full : Bool) → own_end (option_or (option_map closing_of e) (if stopped then Some Stopped else if full then Some Limit else None)) ≡ e
own_ending None true full = refl
own_ending None false true = refl
own_ending None false false = refl
own_ending (Some ending.Quiet) stopped full = refl
own_ending (Some (ending.Stuck rules)) stopped full = refl

module _ (verified : TypedProgram) (inputs : List Input) (counts : ActorCounts) (limit : ℕ) (may : MayOpen verified.program inputs counts limit) where
  left_in : (left : EndedRun) (p : PoolView) → IsLeftIn (opened verified inputs counts limit) p left.outcome left.history → IsOfRun verified.program inputs counts left
  left_in left p h =
      let shut = h.shut in
      let s = shut.state in
      let here : reached verified.program inputs counts p.history ≡ Went s = subst (λ (q : PoolView). HasState q s) h.of_first shut.has_state in
      let within : length p.history ≤ limit = h.within in
      let few : length p.history ≤ 1000000 = omega (arith, within, may.within.few) in
      record {
        given = may.inputs_are;
        state = s;
        reaches = subst (λ (es : List Event). reached verified.program inputs counts es ≡ Went s) (sym shut.events) here;
        few = subst (λ (es : List Event). length es ≤ 1000000) (sym shut.events) few;
        shows = subst (λ (q : PoolView). IsLeftOf q.program.program s left.outcome) h.of_first shut.left;
        ends = ap own_end shut.closing ∙ own_ending (ending_of s) p.stopped (length p.history == p.limit);
      }

  pub of_run : (seed : Option ℕ) (answers : List Bool) (left : EndedRun) → IsLeftBy seed (opened verified inputs counts limit) answers left → IsOfRun verified.program inputs counts left
  of_run seed answers left (turns, count, many, is, (p, comes, shut, ended)) = left_in left p shut

-- ---- its certificate

module _ (program : List Procedure) (inputs : List Input) (layout : ActorCounts) (left : EndedRun) (is : IsOfRun program inputs layout left) where
  calm_is : IsFirstContest program inputs layout left.history.events None → ((s : State) (end : Ending) → IsWholeRun program inputs layout left.history.events s end → IsOnlyResult program inputs s end)
      → (e : Option Ending) → e ≡ ending_of is.state → IsCertificate program inputs layout left (calm e)
  calm_is first only None end = (first, record { state = is.state; reaches = is.reaches; runs_on = sym end })
  calm_is first only (Some e) end =
      let whole : IsWholeRun program inputs layout left.history.events is.state e = record { given = is.given; goes = is.reaches; ends = sym end } in
      (first, record { state = is.state; end = e; whole = whole; shows = is.shows; only = only is.state e whole })

  found_is : (found : Option CopyInsertion) → IsFirstContest program inputs layout left.history.events found
      → (found ≡ None → (s : State) (end : Ending) → IsWholeRun program inputs layout left.history.events s end → IsOnlyResult program inputs s end)
      → IsCertificate program inputs layout left (certificate_of found left.outcome.closing)
  found_is None first only = calm_is first (only refl) (own_end left.outcome.closing) is.ends
  found_is (Some at) first only = first

  -- from the events that were copied
  pub certified : (events : List Event) (found : Option CopyInsertion) → events ≡ left.history.events → IsFirstContest program inputs layout events found
      → (found ≡ None → (s : State) (end : Ending) → IsWholeRun program inputs layout events s end → IsOnlyResult program inputs s end) → IsCertificate program inputs layout left (certificate_of found left.outcome.closing)
  certified events found all first only =
      found_is found
      (subst (λ (es : List Event). IsFirstContest program inputs layout es found) all first)
      (subst (λ (es : List Event). found ≡ None → (s : State) (end : Ending) → IsWholeRun program inputs layout es s end → IsOnlyResult program inputs s end) all only)
