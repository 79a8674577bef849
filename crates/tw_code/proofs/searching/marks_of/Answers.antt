use Rattle.std.proofs.Common.{refl, ap, false}
use Rattle.std.specs.Prelude.{◌||◌}
use Rattle.std.proofs.lemmas.List.{get_or-replicate}
use Rattle.tw_code.specs.machine.Texts.{is_among}
use Rattle.tw_code.proofs.searching.marks_of.Goals as goal

pub loop-byte-init : goal.loop-byte-init
loop-byte-init c = record { long = refl; marks = λ byte small. ap (λ mark. mark || is_among c.args.set.now byte) (get_or-replicate 256 byte false false small) }
