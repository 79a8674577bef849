use Rattle.tw_handles.proofs.Names.{IsSeen, Looked, inl, inr, refl, sym, ◌∙◌}
use Rattle.tw_handles.proofs.Looking.{has_looked, one_book}
use Rattle.tw_handles.proofs.running.run_by_flag.Goals as goal

pub catch_up-requires : goal.catch_up-requires
catch_up-requires c =
    let code = c.run_program-code in
    let looked = has_looked (Looked IsSeen c.signal-signal.result code.new.stop) c.args.order c.args.report.now.held code.new.report.held code.result c.if-code-eq-DONE.true c.args.program.now.held c.args.inputs.now.held code.ensures.is in
    c.into_seen-seen.ensures.0 ∙ (one_book c.signal-signal.result looked.0 code.new.stop looked.1 ∙ c.signal-signal.ensures.0)

pub returns-then-code-eq-DONE-clause-is : goal.returns-then-code-eq-DONE-clause-is
returns-then-code-eq-DONE-clause-is c =
    let code = c.run_program-code in
    let caught = c.catch_up.ensures in
    let looked = has_looked (Looked IsSeen c.signal-signal.result code.new.stop) c.args.order c.args.report.now.held code.new.report.held code.result c.if-code-eq-DONE.true c.args.program.now.held c.args.inputs.now.held code.ensures.is in
    let book = one_book c.signal-signal.result looked.0 code.new.stop looked.1 ∙ c.signal-signal.ensures.0 in (
      c.signal-signal.result,
      code.new.stop,
      c.signal-signal.ensures,
      code.ensures.is,
      inl (c.catch_up.new.self, refl, (book ∙ sym caught.0, sym (caught.1 ∙ c.into_seen-seen.ensures.1)), c.if-code-eq-DONE.true),
    )

pub returns-else-code-eq-DONE-clause-is : goal.returns-else-code-eq-DONE-clause-is
returns-else-code-eq-DONE-clause-is c =
    let code = c.run_program-code in
    (c.signal-signal.result, code.new.stop, c.signal-signal.ensures, code.ensures.is, inr (refl, c.if-code-eq-DONE.false))
