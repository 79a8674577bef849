-- A run whose events have a bound ends before a limit above it.
use Rattle.tw_in_turn.proofs.Names.{AreInputsOf, Bool, Closing, Ending, EndsByItself, HasEnded, HasEndedByItself, HasFew, Input, IsBoundedBy, IsLeftIn, List, None, Option, PoolView, Some, State, TypedProgram, Went, ap, arith, closing_at, closing_of, ending, eqb-true, false, few_events, if◌then◌else◌, length, opened, option_map, option_or, reached, refl, subst, sym, true, typings_of, ℕ, ◌==◌, ◌∙◌, ◌≡◌}
use Rattle.tw_types.specs.declared.ending.Ending.TheVariants as ending
use Rattle.tw_pool.specs.declared.answer.Closing.TheVariants.{Quiet, Stuck, Stopped, Limit}

pub has_few : (verified : TypedProgram) (most : ℕ) → IsBoundedBy verified most → HasFew verified most
has_few verified most is p s same inputs state =
    few_events verified.program (typings_of verified) is.within is.right most is.bound p.inputs p.layout p.history s inputs
    (subst (λ (program : TypedProgram). reached program.program p.inputs p.layout p.history ≡ Went s) same state)

-- a run is over by the limit only with so many events
limit_reached : (p : PoolView) (s : State) → closing_at p s ≡ Some Limit → length p.history ≡ p.limit
limit_reached p s e = by (ending s) e
  where
    by_test : (b : Bool) → (length p.history == p.limit) ≡ b → (if b then Some Limit else None) ≡ Some Limit → length p.history ≡ p.limit
    by_test true same f = eqb-true (length p.history) p.limit same
    by_test false same f = cc

    by_stop : (b : Bool) → (if b then Some Stopped else if length p.history == p.limit then Some Limit else None) ≡ Some Limit → length p.history ≡ p.limit
    by_stop true f = cc
    by_stop false f = by_test (length p.history == p.limit) refl f

    by : (o : Option Ending) → option_or (option_map closing_of o) (if p.stopped then Some Stopped else if length p.history == p.limit then Some Limit else None) ≡ Some Limit → length p.history ≡ p.limit
    by None f = by_stop p.stopped f
    by (Some ending.Quiet) f = cc
    by (Some (ending.Stuck rules)) f = cc

not_by_limit : (closing : Option Closing) → HasEnded closing → (closing ≡ Some Limit → ⊥) → HasEndedByItself closing
not_by_limit None ended not = ended
not_by_limit (Some Quiet) ended not = tt
not_by_limit (Some (Stuck rules)) ended not = tt
not_by_limit (Some Stopped) ended not = ended
not_by_limit (Some Limit) ended not = not refl

pub ends_by_itself : (verified : TypedProgram) (most : ℕ) → IsBoundedBy verified most → EndsByItself verified most
ends_by_itself verified most is inputs layout limit seed may_stop left given above over (turns, (q, comes, shut, ended), may) =
    not_by_limit left.outcome.closing (ended over) (by q shut)
  where
    by : (p : PoolView) → IsLeftIn (opened verified inputs layout limit) p left.outcome left.history → left.outcome.closing ≡ Some Limit → ⊥
    by p l e =
        let program = ap (λ (q : PoolView). q.program) l.of_first in
        let same = ap (λ (q : PoolView). q.inputs) l.of_first in
        let limits = ap (λ (q : PoolView). q.limit) l.of_first in
        let few = has_few verified most is p l.shut.state program (subst (λ (xs : List Input). AreInputsOf verified.program xs) (sym same) given) l.shut.has_state in
        let all = limit_reached p l.shut.state (sym l.shut.closing ∙ e) in
        absurd (omega (arith, few, all, limits, above))
