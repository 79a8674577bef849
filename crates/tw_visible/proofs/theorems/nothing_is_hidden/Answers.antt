use Rattle.tw_visible.proofs.Visibles as visibles
use Rattle.tw_visible.proofs.theorems.nothing_is_hidden.Goals as goal

pub returns : goal.returns
returns c = visibles.nothing_is_hidden
