use Rattle.tw_verdict.proofs.Sources.{unreadable}
use Rattle.tw_verdict.proofs.source.read_source.Goals as goal

pub returns-in-Ok-clause-is : goal.returns-in-Ok-clause-is
returns-in-Ok-clause-is c = c.verify_read.ensures.is c.args.format c.args.source.now c.in-Ok.ensures.encodes c.in-Ok.ensures.text

pub returns-in-Err-clause-is : goal.returns-in-Err-clause-is
returns-in-Err-clause-is c = unreadable c.args.format c.args.source.now c.in-Err.why c.no_program_verdict-verdict.result c.in-Err.ensures.none c.no_program_verdict-verdict.ensures
