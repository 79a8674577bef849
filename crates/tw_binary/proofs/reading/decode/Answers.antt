use Rattle.std.proofs.Common.{ap, arith, Ok}
use Rattle.tw_binary.proofs.Programs.{whole_takes, one_program, no_program}
use Rattle.tw_binary.proofs.FirstFault.{first_fault}
use Rattle.tw_binary.proofs.reading.decode.Goals as goal

pub new-requires : goal.new-requires
new-requires c = (whole_takes c.args.bytes.now _ (λ i. omega (arith, c.type_inv.bytes i)) c.in-Ok.ensures).0

pub returns-in-Ok-clause-found : goal.returns-in-Ok-clause-found
returns-in-Ok-clause-found c = rw c.new.ensures (whole_takes c.args.bytes.now _ (λ i. omega (arith, c.type_inv.bytes i)) c.in-Ok.ensures)

pub returns-in-Ok-clause-only : goal.returns-in-Ok-clause-only
returns-in-Ok-clause-only c = λ p fits spelled. rw c.new.ensures (ap (λ v. Ok v) (one_program c.args.bytes.now _ p c.in-Ok.ensures fits spelled))

pub returns-in-Err-At-clause-only : goal.returns-in-Err-At-clause-only
returns-in-Err-At-clause-only c = λ p fits spelled. absurd (no_program c.args.bytes.now _ p (rw c.in-Err-At.field-0-is at c.in-Err-At.ensures) fits spelled)

pub returns-in-Err-At-clause-first : goal.returns-in-Err-At-clause-first
returns-in-Err-At-clause-first c =
    first_fault c.args.bytes.now c.in-Err-At.broken c.saturating_sub.result (λ i. omega (arith, c.type_inv.bytes i)) (rw c.in-Err-At.field-0-is at c.in-Err-At.ensures) c.saturating_sub.ensures
