use Rattle.tw_report.proofs.Names.{number_after, words_in}
use Rattle.tw_report.proofs.EventReading.{first_some, none_after}
use Rattle.tw_report.proofs.read_event.first_number_after.Goals as goal

pub returns : goal.returns
returns c = first_some (number_after c.args.letter) c.args.line.now c.first_word.result.0.now (words_in c.first_word.result.1.now) c.in_ok-number.number c.first_word.ensures (none_after c.args.letter) c.in_ok-number.ensures
