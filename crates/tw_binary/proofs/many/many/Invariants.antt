use Rattle.tw_binary.specs.Reading.{AreRead, Reading}
use Rattle.tw_binary.proofs.Loop.{HasRead}
use Rattle.tw_binary.proofs.many.many.Given as goal

abbrev pub invariant-loop : goal.invariant-loop
invariant-loop g l = (read : Reading g.row.T.Denot) → AreRead (λ bytes answer. g.F.Fn.post l.read (bytes, tt) answer) read → HasRead read l.count l.counter l.items.items l.rest l.bytes
