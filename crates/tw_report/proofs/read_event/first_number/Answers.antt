use Rattle.tw_report.proofs.Names.{number_in, words_in}
use Rattle.tw_report.proofs.EventReading.{first_some, number_none}
use Rattle.tw_report.proofs.read_event.first_number.Goals as goal

pub returns : goal.returns
returns c = first_some (number_in c.args.low c.args.high) c.args.line.now c.first_word.result.0.now (words_in c.first_word.result.1.now) c.in_ok-number.number c.first_word.ensures (number_none c.args.low c.args.high) c.in_ok-number.ensures.is
