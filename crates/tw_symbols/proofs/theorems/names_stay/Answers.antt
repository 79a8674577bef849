use Rattle.tw_symbols.proofs.OwnNames.{names_stay}
use Rattle.tw_symbols.proofs.theorems.names_stay.Goals as goal

pub returns : goal.returns
returns c = names_stay
