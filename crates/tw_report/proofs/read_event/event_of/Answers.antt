use Rattle.tw_report.specs.Events.{words_in}
use Rattle.tw_report.proofs.EventReading.{line_event, line_named}
use Rattle.tw_report.proofs.read_event.event_of.Goals as goal

pub returns : goal.returns
returns c = line_event c.args.line.now c.named.result (line_named c.args.line.now c.first_word.result.0.now (words_in c.first_word.result.1.now) c.named.result c.first_word.ensures c.named.ensures)
