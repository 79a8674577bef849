use Rattle.tw_symbols.proofs.RenamedLines.{as_many}
use Rattle.tw_symbols.proofs.theorems.as_many_lines.Goals as goal

pub returns : goal.returns
returns c = as_many
