use Rattle.tw_machine.proofs.Names.{TaskTable, Went, actor_cmp-IsAntisymmetric, actor_cmp_total, ap, err_from_is_err_and, found_view, frames_of, insert, inserted_view, is_some, refl, sym, with_frames, with_tasks, ◌∙◌}
use Rattle.tw_machine.proofs.Takes.{take_outside, take_busy, take_none, take_stopped, take_enabled, take_goes}
use Rattle.tw_machine.proofs.events.tasks.take.Goals as goal
use Rattle.tw_machine.proofs.events.tasks.take.Goals.{then-not-has-via-then-not-has, then-not-has-via-else-not-has+then-contains_key}

pub returns-then-not-has-clause-takes : goal.returns-then-not-has-clause-takes
returns-then-not-has-clause-takes c = λ s.
    let old = with_frames (with_tasks s c.args.tasks.now) (frames_of c.args.frames.now.entries) in
    let at = found_view actor_cmp_total actor_cmp-IsAntisymmetric c.args.frames.now c.args.actor _ refl in
    elim c.then-not-has.branch [
      | then-not-has-via-then-not-has w ↦ (take_outside c.args.program.now c.args.layout c.args.actor old (sym w.if-not-has.ensures), refl)
      | then-not-has-via-else-not-has+then-contains_key w ↦
          (take_busy c.args.program.now c.args.layout c.args.actor old (sym w.if-not-has.ensures) (ap is_some at ∙ sym w.if-contains_key.ensures), refl)
    ]

pub returns-in_default-clause-takes : goal.returns-in_default-clause-takes
returns-in_default-clause-takes c = λ s.
    let old = with_frames (with_tasks s c.args.tasks.now) (frames_of c.args.frames.now.entries) in
    let at = found_view actor_cmp_total actor_cmp-IsAntisymmetric c.args.frames.now c.args.actor _ refl in
    (take_none c.args.program.now c.args.layout c.args.actor old (sym c.if-not-has.ensures) (ap is_some at ∙ sym c.if-contains_key.ensures) (sym c.in_default.ensures), refl)

pub returns-in_err-frame-clause-takes : goal.returns-in_err-frame-clause-takes
returns-in_err-frame-clause-takes c = λ s.
    let old = with_frames (with_tasks s c.args.tasks.now) (frames_of c.args.frames.now.entries) in
    let at = found_view actor_cmp_total actor_cmp-IsAntisymmetric c.args.frames.now c.args.actor _ refl in
    let p = err_from_is_err_and c.from_residual.result c.from_residual.ensures.1 in
    rw (p.1, p.2) (take_stopped c.args.program.now c.args.layout c.args.actor old (sym c.if-not-has.ensures) (ap is_some at ∙ sym c.if-contains_key.ensures) _ _ (sym c.in-Some.ensures) c.in_err-frame.ensures, refl)

pub returns-clause-takes : goal.returns-clause-takes
returns-clause-takes c = λ s.
    let old = with_frames (with_tasks s c.args.tasks.now) (frames_of c.args.frames.now.entries) in
    let at = found_view actor_cmp_total actor_cmp-IsAntisymmetric c.args.frames.now c.args.actor _ refl in
    take_goes c.args.program.now c.args.layout c.args.actor old (sym c.if-not-has.ensures) (ap is_some at ∙ sym c.if-contains_key.ensures) _ c.in_ok-frame.frame (sym c.in-Some.ensures) c.in_ok-frame.ensures
    ∙ ap (λ (ts : TaskTable). Went (with_frames (with_tasks s ts) (insert (frames_of c.args.frames.now.entries) c.args.actor c.in_ok-frame.frame))) (sym c.remove.ensures)
    ∙ ap (λ fs. Went (with_frames (with_tasks s c.remove.new.self) fs)) (sym (inserted_view actor_cmp_total actor_cmp-IsAntisymmetric c.args.frames.now c.insert.new.self c.args.actor c.in_ok-frame.frame c.in_ok-insert.ensures.updates))

pub returns-in_err-frame-clause-memory : goal.returns-in_err-frame-clause-memory
returns-in_err-frame-clause-memory c = λ is s.
    let old = with_frames (with_tasks s c.args.tasks.now) (frames_of c.args.frames.now.entries) in
    let at = found_view actor_cmp_total actor_cmp-IsAntisymmetric c.args.frames.now c.args.actor _ refl in
    take_enabled c.args.program.now c.args.layout c.args.actor old (sym c.if-not-has.ensures) (ap is_some at ∙ sym c.if-contains_key.ensures) _ (sym c.in-Some.ensures)

pub returns-in_err-insert-clause-memory : goal.returns-in_err-insert-clause-memory
returns-in_err-insert-clause-memory c = λ is s.
    let old = with_frames (with_tasks s c.args.tasks.now) (frames_of c.args.frames.now.entries) in
    let at = found_view actor_cmp_total actor_cmp-IsAntisymmetric c.args.frames.now c.args.actor _ refl in
    take_enabled c.args.program.now c.args.layout c.args.actor old (sym c.if-not-has.ensures) (ap is_some at ∙ sym c.if-contains_key.ensures) _ (sym c.in-Some.ensures)
