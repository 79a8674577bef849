use Rattle.tw_lexer.proofs.Written as written
use Rattle.tw_lexer.proofs.theorems.quoted_texts_are_read_back.Goals as goal

pub returns : goal.returns
returns c = written.quoted_texts_are_read_back
