use Rattle.tw_report.proofs.Names.{actor_in, words_in}
use Rattle.tw_report.proofs.EventReading.{first_some, actor_none}
use Rattle.tw_report.proofs.read_event.first_actor.Goals as goal

pub returns : goal.returns
returns c = first_some actor_in c.args.line.now c.first_word.result.0.now (words_in c.first_word.result.1.now) c.in_ok-actor.actor c.first_word.ensures actor_none c.in_ok-actor.ensures
