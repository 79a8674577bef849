use Rattle.tw_asm.proofs.Unique as unique
use Rattle.tw_asm.proofs.theorems.spells_once.Goals as goal

pub returns : goal.returns
returns c = unique.spells_once
