-- The instructions of a run, with those of a task that was cut off, are within main's bound.
use Rattle.tw_in_turn.proofs.Names.{ActorCounts, AreInputsOf, End, EndsAfter, ExecutesFew, FinalView, HasState, HistoryView, Input, IsBoundOfMain, IsLeftIn, List, MayExecute, PoolView, State, TypedProgram, Went, ap, arith, cut_of, instructions_alone, instructions_by, instructions_in, opened, reached, subst, suc, sum_by-append, sym, typings_of, with_events, within, zero, ℕ, ◌+◌, ◌≡◌, ◌≤◌}
use Rattle.tw_code.specs.format.Program.{IsProgram}
use Rattle.tw_soundness.specs.NoTrap.{AreRight}
use Rattle.tw_in_turn.specs.declared.rounds.End.TheVariants.{Over, NoMemory, Stopped}

module _ (verified : TypedProgram) (most : ℕ) (is : IsProgram verified.program) (are : AreRight verified.program (typings_of verified)) (main : IsBoundOfMain verified.program instructions_alone most) where
  few : (p : PoolView) (s : State) → p.program ≡ verified → AreInputsOf verified.program p.inputs → HasState p s → instructions_in p.history ≤ most
  few p s same given at =
      let h = within verified.program (typings_of verified) is are instructions_alone main.0 main.1 most main.2 p.inputs p.layout p.history s given
      (subst (λ (program : TypedProgram). reached program.program p.inputs p.layout p.history ≡ Went s) same at) in
      omega (arith, h)

  in_left : (inputs : List Input) (layout : ActorCounts) (limit : ℕ) (p : PoolView) (final : FinalView) (history : HistoryView) → AreInputsOf verified.program inputs → IsLeftIn (opened verified inputs layout limit) p final history
      → (cut : ℕ) → MayExecute p cut → instructions_in history.events + cut ≤ most
  in_left inputs layout limit p final history given l = by
    where
      program : p.program ≡ verified
      program = ap (λ (q : PoolView). q.program) l.of_first

      own : AreInputsOf verified.program p.inputs
      own = subst (λ (xs : List Input). AreInputsOf verified.program xs) (sym (ap (λ (q : PoolView). q.inputs) l.of_first)) given

      same : instructions_in history.events ≡ instructions_in p.history
      same = ap instructions_in l.shut.events

      by : (cut : ℕ) → MayExecute p cut → instructions_in history.events + cut ≤ most
      by zero more = let all = few p l.shut.state program own l.shut.has_state in omega (arith, all, same)
      by (suc n) more =
          let all = few (with_events p more.events) more.state program own more.has_state in
          let sum = sum_by-append instructions_by p.history more.events in
          let rest = more.instructions in
          omega (arith, all, same, sum, rest)

  pub executes_few : ExecutesFew verified most
  executes_few inputs layout limit seed may_stop left given (turns, (p, comes, l, ended), may) =
      in_left inputs layout limit p left.outcome left.history given l (cut_of left.end) (executes left.end comes)
    where
      executes : (end : End) → EndsAfter seed (opened verified inputs layout limit) turns end p → MayExecute p (cut_of end)
      executes Over over = tt
      executes NoMemory failed = tt
      executes (Stopped cut) stopped = stopped.1
