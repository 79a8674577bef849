use Rattle.tw_asm.proofs.AsmNames.{map, seen}
use Rattle.tw_asm.proofs.Whole.{all_fine, answered}
use Rattle.tw_asm.proofs.read.statement_of.Goals as goal

pub returns : goal.returns
returns c = answered c.args.version c.read_of.result (map seen c.args.words.now) (all_fine c.args.words.now) c.read_of.ensures
