use Rattle.std.proofs.Common.{◌≤◌, arith, subst, sym, ℕ}
use Rattle.std.specs.Option.{MatchOption}
use Rattle.tw_replay_output.specs.Stuck.{IsMadeSo, IsUnmade}
use Rattle.tw_replay_output.proofs.stuck.made_of.Goals as goal

pub returns-in_err-index : goal.returns-in_err-index
returns-in_err-index c = λ start events are.
    subst (λ o. MatchOption o (IsUnmade start events c.args.rule) (IsMadeSo start events c.args.rule)) (sym c.from_residual.ensures)
    (λ procedure place action h. c.in_err-index.ensures (subst (λ (n : ℕ). 1 ≤ n) (sym c.number.ensures) (are.all c.args.rule procedure place action h).0))

pub returns-in-None : goal.returns-in-None
returns-in-None c = λ start events are procedure place action h.
    let b = are.all c.args.rule procedure place action h in
    let past = c.in-None.ensures.lookup.3 in
    absurd (omega (arith, b.0, b.1, past, c.number.ensures, c.in_ok-index.ensures))
