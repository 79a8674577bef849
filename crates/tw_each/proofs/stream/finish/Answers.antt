use Rattle.tw_each.proofs.Names.{eqb-false, eqb-true, err_from_is_err_and, length, sym, way, ◌∙◌}
use Rattle.tw_each.proofs.Chunks.{last_line, last_stops, no_last}
use Rattle.tw_each.proofs.stream.finish.Goals as goal

pub returns-then-is_empty : goal.returns-then-is_empty
returns-then-is_empty g c bytes at =
    no_last (way c.args.crew.now.run.now) c.args.answered bytes c.args.begun.now (g.W.Write.contents c.args.writer.now) at
    (eqb-true (length c.args.begun.now) 0 (sym c.is_empty.ensures ∙ c.if-is_empty.true))

pub returns-in_err-last : goal.returns-in_err-last
returns-in_err-last g c bytes at =
    let some = eqb-false (length c.args.begun.now) 0 (sym c.is_empty.ensures ∙ c.if-is_empty.false) in
    let p = err_from_is_err_and c.from_residual.result c.from_residual.ensures.1 in
    rw (p.1, p.2) (last_stops (way c.args.crew.now.run.now) c.args.answered bytes c.args.begun.now _ _ _ at some c.in_err-last.ensures)

pub returns : goal.returns
returns g c bytes at =
    let some = eqb-false (length c.args.begun.now) 0 (sym c.is_empty.ensures ∙ c.if-is_empty.false) in
    last_line (way c.args.crew.now.run.now) c.args.answered c.in_ok-last.last bytes c.args.begun.now _ _ at some c.in_ok-last.ensures
