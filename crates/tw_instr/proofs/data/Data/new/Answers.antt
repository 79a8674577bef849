use Rattle.tw_instr.proofs.Names.{ap, store_of, with_live, ◌∙◌}
use Rattle.tw_instr.proofs.Live.{none_live}
use Rattle.tw_instr.proofs.data.Data.new.Goals as goal

pub returns : goal.returns
returns c = ap (λ es. store_of es 1) c.new.ensures.empty ∙ ap (with_live 1) none_live
