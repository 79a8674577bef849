use Rattle.tw_report.proofs.Names.{parameter_in, words_in}
use Rattle.tw_report.proofs.EventReading.{first_some, parameter_none}
use Rattle.tw_report.proofs.read_event.first_parameter.Goals as goal

pub returns : goal.returns
returns c = first_some parameter_in c.args.line.now c.first_word.result.0.now (words_in c.first_word.result.1.now) c.in_ok-number.number c.first_word.ensures parameter_none c.in_ok-number.ensures
