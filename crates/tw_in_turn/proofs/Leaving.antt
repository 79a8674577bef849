-- The results of a pool whose run is over.
use Rattle.tw_in_turn.proofs.Names.{End, EndsAfter, FinalView, HasEnded, HasState, HistoryView, IsClosedPool, IsGrown, IsLeftAfter, IsLeftIn, Option, PoolView, State, ap, false, subst, sym, ℕ, ◌∙◌, ◌≡◌}
use Rattle.tw_in_turn.specs.declared.rounds.End.TheVariants as stop
use Rattle.tw_soundness.specs.EndsWell.{EndsWell}
use Rattle.tw_in_turn.proofs.Moving.{ends_over}

module _ (pool first p : PoolView) (final : FinalView) (history : HistoryView) (is : pool ≡ first) where
  pub left_in : IsGrown pool p → IsClosedPool p final history → ((s : State) → HasState p s → EndsWell p.program.program s) → IsLeftIn first p final history
  left_in grown shut ends =
      let same : p ≡ record first { history = p.history } = grown.same ∙ ap (λ (q : PoolView). record q { history = p.history }) is in
      record {
        of_first = same;
        within = (subst (λ (q : PoolView). IsGrown q p) is grown).within;
        shut = shut;
        ends_well = subst (λ (q : PoolView). EndsWell q.program.program shut.state) same (ends shut.state shut.has_state);
      }

  pub left_after : (seed : Option ℕ) (turns : ℕ) (end : End) → first.stopped ≡ false → EndsAfter seed pool turns end p → IsGrown pool p → IsClosedPool p final history → ((s : State) → HasState p s → EndsWell p.program.program s)
      → IsLeftAfter seed first turns (record { outcome = final; history = history; end = end })
  left_after seed turns end on comes grown shut ends =
      let here : EndsAfter seed first turns end p = subst (λ (q : PoolView). EndsAfter seed q turns end p) is comes in
      let ended : end ≡ stop.Over → HasEnded final.closing = λ over.
      subst HasEnded (sym shut.closing) (ends_over seed first p on (subst (λ (e : End). EndsAfter seed first turns e p) over here).0 shut.state shut.has_state) in
      (p, here, left_in grown shut ends, ended)
