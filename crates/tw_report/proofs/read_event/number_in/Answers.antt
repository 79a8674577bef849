use Rattle.tw_report.proofs.Readings.{number_err, number_ok}
use Rattle.tw_report.proofs.read_event.number_in.Goals as goal

pub returns-in-Ok-clause-is : goal.returns-in-Ok-clause-is
returns-in-Ok-clause-is c = number_ok c.args.low c.args.high c.in-Ok.number c.args.word.now c.in-Ok.ensures

pub returns-in-Err-clause-is : goal.returns-in-Err-clause-is
returns-in-Err-clause-is c = number_err c.args.low c.args.high c.args.word.now c.in-Err.field-0 c.in-Err.ensures
