use Rattle.std.proofs.Common.{ap, ◌∙◌}
use Rattle.tw_asm.proofs.Ones.{from_start, inserted_from}
use Rattle.tw_asm.proofs.disassembler.label_places.Goals as goal

pub loop-place-init : goal.loop-place-init
loop-place-init c = ap (inserted_from c.args.code.now 0) c.new-places.ensures.empty ∙ from_start c.args.code.now
