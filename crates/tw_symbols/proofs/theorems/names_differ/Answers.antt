use Rattle.tw_symbols.proofs.OwnNames.{names_differ}
use Rattle.tw_symbols.proofs.theorems.names_differ.Goals as goal

pub returns : goal.returns
returns c = names_differ
