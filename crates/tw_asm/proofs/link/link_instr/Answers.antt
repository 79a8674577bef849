use Rattle.tw_asm.proofs.AsmNames.{IsNoGoal, ap, bytes_of, inr, map, seen_label, subst, sym}
use Rattle.tw_asm.proofs.link.link_instr.Goals as goal

pub returns-in-Ok : goal.returns-in-Ok
returns-in-Ok c = rw c.in-Some.is (c.in-Ok.skip, c.in-Ok.ensures.0, c.in-Ok.ensures.1, c.with_skip.ensures)

pub returns-in-Err : goal.returns-in-Err
returns-in-Err c =
    inr (c.in-Some.name.now, ap bytes_of c.in-Some.is, subst (IsNoGoal (map seen_label c.args.labels.now.entries) c.args.place c.in-Some.name.now) (sym c.new.ensures.no) c.in-Err.ensures, c.new.ensures.line, c.new.ensures.found)
