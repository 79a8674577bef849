use Rattle.std.proofs.Common.{inl, inr, sym}
use Rattle.tw_datum.proofs.run.is_above.Goals as goal

pub returns-in-Greater : goal.returns-in-Greater
returns-in-Greater g c = λ is. inr (_, c.in-Some.last.now, c.in-Some.ensures.cases.0, sym c.in-Greater.ensures)

pub returns-in-None : goal.returns-in-None
returns-in-None g c = λ is. inl c.in-None.ensures.cases
