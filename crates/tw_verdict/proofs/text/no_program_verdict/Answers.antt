use Rattle.std.proofs.Common.{inl}
use Rattle.tw_verdict.proofs.text.no_program_verdict.Goals as goal

pub returns-in-Ok : goal.returns-in-Ok
returns-in-Ok c = inl (c.in-Ok.failure, c.in-Ok.ensures.1, c.failure_verdict.ensures)
