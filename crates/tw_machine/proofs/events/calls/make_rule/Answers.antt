use Rattle.tw_machine.proofs.Names.{err_from_is_err_and, fails_then, refl}
use Rattle.tw_machine.proofs.events.calls.make_rule.Goals as goal

pub returns-in_err-task : goal.returns-in_err-task
returns-in_err-task c = λ procedure same.
    let p = err_from_is_err_and c.from_residual.result c.from_residual.ensures.1 in
    rw (p.1, p.2, same) ((λ s. fails_then _ _ _ (c.in_err-task.ensures c.args.tables.now.notices)), refl, refl)
