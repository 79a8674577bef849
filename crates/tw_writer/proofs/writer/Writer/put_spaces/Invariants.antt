use Rattle.std.specs.Prelude.{replicate}
use Rattle.tw_writer.specs.Appended.{IsAppended}
use Rattle.tw_writer.proofs.writer.Writer.put_spaces.Given as goal

abbrev pub invariant-loop : goal.invariant-loop
invariant-loop l = IsAppended l.fn.self l.self (replicate l.counter 32)
