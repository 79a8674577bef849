use Rattle.tw_lexer.proofs.Colons.{colon_same}
use Rattle.tw_lexer.proofs.names.before_colon.Goals as goal

pub returns : goal.returns
returns c = colon_same c.args.word.now c.before-2.result c.before-2.ensures
