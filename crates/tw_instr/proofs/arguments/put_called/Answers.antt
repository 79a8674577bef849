use Rattle.std.proofs.lemmas.Result.{err_from_is_err_and}
use Rattle.tw_instr.proofs.Handing.{fails_before}
use Rattle.tw_instr.proofs.arguments.put_called.Goals as goal

pub returns-in_err-named : goal.returns-in_err-named
returns-in_err-named c = λ n.
    let p = err_from_is_err_and c.from_residual.result c.from_residual.ensures.1 in
    rw (p.1, p.2) (fails_before _ _ _ (c.in_err-named.ensures n))
