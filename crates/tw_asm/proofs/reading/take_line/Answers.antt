use Rattle.std.proofs.Common.{Option, Ok, subst}
use Rattle.tw_asm.specs.declared.statement.Statement as statements
use Rattle.tw_asm.specs.reading.Progress.{WordsRead, seen_reading}
use Rattle.tw_asm.proofs.Taking.{line_taken}
use Rattle.tw_asm.proofs.reading.take_line.Goals as goal

pub returns-in-Ok-Some : goal.returns-in-Ok-Some
returns-in-Ok-Some c =
    line_taken (seen_reading c.args.reading) c.args.number c.args.line.now c.in-Ok-Some.statement c.take_statement.result
    (subst (λ (o : Option statements.Statement). WordsRead (seen_reading c.args.reading) c.args.number c.args.line.now (Ok o)) c.in-Ok-Some.field-0-is c.in-Ok-Some.ensures)
    c.take_statement.ensures
