use Rattle.tw_machine.proofs.Names.{err_from_is_err_and, refl}
use Rattle.tw_machine.proofs.Frames.{local_stopped}
use Rattle.tw_machine.proofs.events.tasks.local_of.Goals as goal

pub returns-in_err-must_be_local-clause-goes : goal.returns-in_err-must_be_local-clause-goes
returns-in_err-must_be_local-clause-goes c =
    let p = err_from_is_err_and c.from_residual-in_err-must_be_local.result c.from_residual-in_err-must_be_local.ensures.1 in
    rw (p.1, p.2) (
      local_stopped c.args.program.now c.args.frame.now c.procedure.result c.in_ok-procedure.procedure.now c.as_slice-code.result.now c.position.result.now c.args.steps _ c.if-steps-eq0.false c.procedure.ensures
          c.in_ok-procedure.ensures c.as_slice-code.ensures c.position.ensures c.in_err-must_be_local.ensures,
      refl,
    )
