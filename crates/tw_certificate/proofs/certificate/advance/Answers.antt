use Rattle.std.proofs.Common.{◌+◌, arith}
use Rattle.tw_code.specs.machine.Bounds.{size_of}
use Rattle.tw_code.proofs.Growth.{below_more}
use Rattle.tw_certificate.proofs.certificate.advance.Goals as goal

pub returns-in_err-note-clause-below : goal.returns-in_err-note-clause-below
returns-in_err-note-clause-below c = λ bound below. below_more bound (bound + size_of c.args.event) c.args.plain.now.state (omega arith) below
