use Rattle.std.proofs.Common.{◌∷◌, [], ◌∙◌, ap, arith, length, length-append}
use Rattle.tw_rights.specs.declared.held.Held.TheVariants.{Read, Write}
use Rattle.tw_rights.specs.Filed.{filed, rights_in}
use Rattle.tw_rights.proofs.Filing.{few_left, filed_one, read_last, value_last, write_last}
use Rattle.tw_rights.proofs.bundle.+fill_first.Goals as goal

pub place-requires-clause-in_file : goal.place-requires-clause-in_file
place-requires-clause-in_file t c = omega (arith, c.fill_first-count.ensures.count, few_left c.args.bundle.now c.pop.new.self c.in-Some.arg c.in-Some.ensures.popped c.requires.few)

pub overflow_add-result : goal.overflow_add-result
overflow_add-result t c = omega (arith, c.fill_first-count.ensures.count, few_left c.args.bundle.now c.pop.new.self c.in-Some.arg c.in-Some.ensures.popped c.requires.few)

pub place-requires-in-Write-clause-in_file : goal.place-requires-in-Write-clause-in_file
place-requires-in-Write-clause-in_file t c = omega (arith, c.fill_first-count.ensures.count, few_left c.args.bundle.now c.pop.new.self c.in-Some.arg c.in-Some.ensures.popped c.requires.few)

pub overflow_add-result-in-Write : goal.overflow_add-result-in-Write
overflow_add-result-in-Write t c = omega (arith, c.fill_first-count.ensures.count, few_left c.args.bundle.now c.pop.new.self c.in-Some.arg c.in-Some.ensures.popped c.requires.few)

pub returns-in-Val-clause-filled : goal.returns-in-Val-clause-filled
returns-in-Val-clause-filled t c = c.fill_first-count.ensures.filled ∙ ap filed (value_last c.args.bundle.now c.pop.new.self c.in-Some.arg c.in-Some.ensures.popped c.in-Val._value c.in-Val.is)

pub returns-in-Val-clause-count : goal.returns-in-Val-clause-count
returns-in-Val-clause-count t c = c.fill_first-count.ensures.count ∙ ap length (value_last c.args.bundle.now c.pop.new.self c.in-Some.arg c.in-Some.ensures.popped c.in-Val._value c.in-Val.is)

pub returns-in-Read-clause-filled : goal.returns-in-Read-clause-filled
returns-in-Read-clause-filled t c = filed_one (rights_in c.pop.new.self) (rights_in c.args.bundle.now) (Read c.in-Read.right) c.fill_first-count.new.file c.place.new.self c.fill_first-count.result (few_left c.args.bundle.now c.pop.new.self c.in-Some.arg c.in-Some.ensures.popped c.requires.few) c.fill_first-count.ensures.filled c.fill_first-count.ensures.count c.place.ensures (read_last c.args.bundle.now c.pop.new.self c.in-Some.arg c.in-Some.ensures.popped c.in-Read.right c.in-Read.is)

pub returns-in-Read-clause-count : goal.returns-in-Read-clause-count
returns-in-Read-clause-count t c = omega (arith, c.fill_first-count.ensures.count, ap length (read_last c.args.bundle.now c.pop.new.self c.in-Some.arg c.in-Some.ensures.popped c.in-Read.right c.in-Read.is), length-append (rights_in c.pop.new.self) (Read c.in-Read.right ∷ []))

pub returns-in-Write-clause-filled : goal.returns-in-Write-clause-filled
returns-in-Write-clause-filled t c = filed_one (rights_in c.pop.new.self) (rights_in c.args.bundle.now) (Write c.in-Write.right) c.fill_first-count.new.file c.place-in-Write.new.self c.fill_first-count.result (few_left c.args.bundle.now c.pop.new.self c.in-Some.arg c.in-Some.ensures.popped c.requires.few) c.fill_first-count.ensures.filled c.fill_first-count.ensures.count c.place-in-Write.ensures (write_last c.args.bundle.now c.pop.new.self c.in-Some.arg c.in-Some.ensures.popped c.in-Write.right c.in-Write.is)

pub returns-in-Write-clause-count : goal.returns-in-Write-clause-count
returns-in-Write-clause-count t c = omega (arith, c.fill_first-count.ensures.count, ap length (write_last c.args.bundle.now c.pop.new.self c.in-Some.arg c.in-Some.ensures.popped c.in-Write.right c.in-Write.is), length-append (rights_in c.pop.new.self) (Write c.in-Write.right ∷ []))
