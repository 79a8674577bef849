use Rattle.tw_asm.proofs.Firsts.{label_by}
use Rattle.tw_asm.proofs.first.is_label.Goals as goal

pub returns-in-Some : goal.returns-in-Some
returns-in-Some c = label_by c.args.word.now c.in-Some.name.now c.is_name.result c.in-Some.ensures c.is_name.ensures
