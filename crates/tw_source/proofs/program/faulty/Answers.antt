use Rattle.std.proofs.Common.{refl}
use Rattle.tw_source.proofs.program.faulty.Goals as goal

pub returns-in-Ok-None : goal.returns-in-Ok-None
returns-in-Ok-None c = λ other utf8. (utf8, (refl, c.requires.kept, c.requires.fault, c.in-Ok-None.ensures c.in-Ok-None.field-0-is))
