use Rattle.tw_in_turn.proofs.Names.{IsRoundResult, Looked, Option, subst, sym, ℕ}
use Rattle.tw_in_turn.proofs.rounds.turn_next.Goals as goal

pub returns-in-None-clause-round : goal.returns-in-None-clause-round
returns-in-None-clause-round g c =
    subst (λ (seed : Option ℕ). IsRoundResult (Looked g.S.StopSignal.says c.args.stop.now c.turn_round.new.stop) seed c.args.rounds c.args.pool.now c.args.kept.now c.turn_round.new.pool c.turn_round.new.kept c.turn_round.result) (sym c.in-None.is) (c.turn_round.ensures.round c.args.rounds)

pub returns-in-Some-clause-round : goal.returns-in-Some-clause-round
returns-in-Some-clause-round g c =
    subst (λ (seed : Option ℕ). IsRoundResult (Looked g.S.StopSignal.says c.args.stop.now c.turn_drawn.new.stop) seed c.args.rounds c.args.pool.now c.args.kept.now c.turn_drawn.new.pool c.turn_drawn.new.kept c.turn_drawn.result) (sym c.in-Some.is) c.turn_drawn.ensures.round
