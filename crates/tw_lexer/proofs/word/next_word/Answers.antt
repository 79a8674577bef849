use Rattle.tw_lexer.proofs.FirstWords.{after_gap_read}
use Rattle.tw_lexer.proofs.word.next_word.Goals as goal

pub returns : goal.returns
returns c = after_gap_read c.next_here.result c.args.bytes.now c.without_gap.result.now c.without_gap.ensures.after c.next_here.ensures
