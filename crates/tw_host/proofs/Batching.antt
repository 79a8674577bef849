-- A batch under the lock: no sleeper has to be woken after it.
use Rattle.tw_host.proofs.Names.{Actor, ActorCounts, AreTurns, AreWoken, Bool, DoneView, HasCleared, HasTargets, IsKnown, IsLayout, IsMarked, IsOver, Isnt, LacksWork, List, Option, PoolView, Run, TakesNone, Turn, ap, false, index_of, is_idle, is_in, is_over_turn, length, refl, run_of, subst, sym, true, ℕ, ◌∙◌, ◌≡◌}
use Rattle.tw_host.proofs.Holding.{Adds}
use Rattle.tw_host.proofs.Knowing as knowing
use Rattle.tw_host.proofs.Settling.{not_both}
use Rattle.tw_host.proofs.Reported.{idle_not_over, idle_says, over_says, over_stays}

module _ (run : Run) (old : PoolView) (of_run : run_of old ≡ run) (layout_is : IsLayout run.layout) (targets_are : HasTargets run.program.program run.layout) (actor : Actor) (seated : is_in run.layout actor ≡ true) (shown : ActorCounts)
    (shown_is : shown ≡ old.layout) where
  layout : IsLayout old.layout
  layout = subst (λ (r : Run). IsLayout r.layout) (sym of_run) layout_is

  targets : HasTargets old.program.program old.layout
  targets = subst (λ (r : Run). HasTargets r.program.program r.layout) (sym of_run) targets_are

  there : is_in old.layout actor ≡ true
  there = subst (λ (r : Run). is_in r.layout actor ≡ true) (sym of_run) seated

  pub shown_layout : IsLayout shown
  shown_layout = subst IsLayout (sym shown_is) layout

  pub shown_there : is_in shown actor ≡ true
  shown_there = subst (λ (l : ActorCounts). is_in l actor ≡ true) (sym shown_is) there

  module _ (before asleep out : ℕ) (over : Bool) (w : AreWoken old before out over) (marked : IsMarked (index_of shown actor) false before asleep) where
    own : IsMarked (index_of old.layout actor) false before asleep
    own = subst (λ (l : ActorCounts). IsMarked (index_of l actor) false before asleep) shown_is marked

    at_run : IsMarked (index_of run.layout actor) false before asleep
    at_run = subst (λ (r : Run). IsMarked (index_of r.layout actor) false before asleep) of_run own

    -- no other actor was marked as awake
    pub none_due : (due : ℕ) → HasCleared (index_of run.layout actor) before asleep due
    none_due due i low other is isnt = not_both before i is (sym (at_run.others i low other) ∙ isnt)

    pub checked_in : (before ≡ 0 → asleep ≡ 0) → AreWoken old asleep out over
    checked_in = knowing.checked_in old layout targets actor there before asleep out over w own

    module _ (new : PoolView) (given : Option DoneView) (turns : List Turn) (answer : Turn) (t : AreTurns old actor given turns answer new) (count : ℕ) (a : Adds old new actor answer count) where
      same : new.layout ≡ old.layout
      same = ap (λ (p : PoolView). p.layout) a.appended

      -- those that were marked as awake after the turns
      pub all_due : (final due : ℕ) → HasCleared (index_of new.layout actor) asleep final due → HasCleared (index_of run.layout actor) before final due
      all_due final due h i low other is isnt =
          h i low (λ e. other (e ∙ ap (λ (l : ActorCounts). index_of l actor) (same ∙ ap (λ (r : Run). r.layout) of_run))) (at_run.others i low other ∙ is) isnt

      pub new_layout : IsLayout new.layout
      new_layout = subst IsLayout (sym same) layout

      pub new_there : is_in new.layout actor ≡ true
      new_there = subst (λ (l : ActorCounts). is_in l actor ≡ true) (sym same) there

      pub awake : Isnt asleep (index_of new.layout actor)
      awake = subst (λ (l : ActorCounts). Isnt asleep (index_of l actor)) (sym same) own.here

      pub known : (events : ℕ) → events ≡ length a.es → IsKnown new asleep out actor events
      known events long = knowing.known old layout targets actor there before asleep out over w own new a.es a.appended a.own events long

      pub ended : over ≡ true → IsOver new
      ended is = subst IsOver (sym (over_stays turns old new actor given answer (w.ended is) t).1) (w.ended is)

      pub stops : new.stopped ≡ true → over ≡ true
      stops is = w.stops (sym (ap (λ (p : PoolView). p.stopped) a.appended) ∙ is)

      pub idle : is_idle answer ≡ true → (over ≡ false) × LacksWork new actor × TakesNone new actor
      idle is = let h = idle_says turns old new actor given answer t is in (by over refl, h.0, h.1)
        where
          by : (b : Bool) → over ≡ b → over ≡ false
          by true e = absurd (idle_not_over answer is (over_stays turns old new actor given answer (w.ended e) t).0)
          by false e = e

      pub says : is_over_turn answer ≡ true → IsOver new
      says is = over_says turns old new actor given answer t is
