use Rattle.tw_machine.proofs.Names.{None, Some, Went, actor_cmp-IsAntisymmetric, actor_cmp_total, ap, err_from_is_err_and, found_view, frames_of, refl, removed_view, sym, with_frames, ◌∙◌}
use Rattle.tw_machine.proofs.Frames.{end_idle}
use Rattle.tw_machine.proofs.events.tasks.end.Goals as goal

pub returns-in_default : goal.returns-in_default
returns-in_default c = λ s.
    let free = found_view actor_cmp_total actor_cmp-IsAntisymmetric c.args.frames.now c.args.actor None c.in_default.ensures.value in
    (end_idle c.args.program.now c.args.actor (with_frames s (frames_of c.args.frames.now.entries)) free, refl)

pub returns-in_err-may_end : goal.returns-in_err-may_end
returns-in_err-may_end c = λ s.
    let there = found_view actor_cmp_total actor_cmp-IsAntisymmetric c.args.frames.now c.args.actor (Some c.in-Some.frame.now) c.in-Some.ensures.value in
    let p = err_from_is_err_and c.from_residual.result c.from_residual.ensures.1 in
    rw (p.1, p.2) (c.in_err-may_end.ensures (with_frames s (frames_of c.args.frames.now.entries)) c.args.actor there, refl)

pub returns : goal.returns
returns c = λ s.
    let there = found_view actor_cmp_total actor_cmp-IsAntisymmetric c.args.frames.now c.args.actor (Some c.in-Some.frame.now) c.in-Some.ensures.value in
    c.in_ok-may_end.ensures (with_frames s (frames_of c.args.frames.now.entries)) c.args.actor there
    ∙ ap (λ fs. Went (with_frames s fs)) (sym (removed_view actor_cmp_total actor_cmp-IsAntisymmetric c.args.frames.now c.remove-frame.new.self c.args.actor c.remove-frame.ensures.updates))
