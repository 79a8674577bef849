use Rattle.tw_each.proofs.Names.{arith, err_from_is_err_and, length, subst, sym, take, way, ◌≡◌}
use Rattle.tw_each.proofs.Slices.{more_done, more_stops}
use Rattle.tw_each.proofs.stream.write_lines.Goals as goal

pub returns-in_err-end : goal.returns-in_err-end
returns-in_err-end g c =
    let p = err_from_is_err_and c.from_residual.result c.from_residual.ensures.1 in
    rw (p.1, p.2) (more_stops (way c.args.crew.now.run.now) c.args.answered.number c.args.answered.worst c.args.lines.now c.split_at.result.1.now c.split_at-in-loop-done.result.0.now c.loop-done.done c.lines.result
    c.loop-done.worst c.in_err-end.field-0.0 _ _ _ c.loop-done.invariant.0 c.split_at.ensures.back c.split_at-in-loop-done.ensures.front c.loop-done.invariant.1 c.in_err-end.ensures.stopped)

pub loop-done-preserved : goal.loop-done-preserved
loop-done-preserved g c =
    let others = c.split_at.result.1.now in
    let some = c.split_at-in-loop-done.result.0.now in
    let long = c.split_at-in-loop-done.ensures.front_len in
    let part : some ≡ take (length some) others = subst (λ n. some ≡ take n others) (sym long) c.split_at-in-loop-done.ensures.front in (
      omega (arith, c.split_at.ensures.back_len, c.lines.ensures.most, long),
      more_done (way c.args.crew.now.run.now) c.args.answered.number c.args.answered.worst c.args.lines.now others some c.loop-done.done (length some) c.loop-done.worst c.in_ok-end.end _ _ _ _ c.worse-worst.ensures
          c.loop-done.invariant.0 c.split_at.ensures.back part c.loop-done.invariant.1 c.in_ok-end.ensures.written,
    )
