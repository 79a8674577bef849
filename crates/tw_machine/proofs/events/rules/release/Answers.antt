use Rattle.tw_machine.proofs.Names.{err_from_is_err_and, frames_of, refl, sym, with_frames, with_tables}
use Rattle.tw_machine.proofs.Pending.{release_other, release_held, release_stopped, released, releases}
use Rattle.tw_machine.proofs.events.rules.release.Goals as goal

pub returns-in_default-clause-releases : goal.returns-in_default-clause-releases
returns-in_default-clause-releases c = λ s.
    let old = with_frames (with_tables s c.args.tables.now) (frames_of c.args.frames.now.entries) in
    (release_other c.args.engine c.args.number old c.args.program.now (c.in_default.ensures s), refl)

pub returns-then-not-is_releasable-clause-releases : goal.returns-then-not-is_releasable-clause-releases
returns-then-not-is_releasable-clause-releases c = λ s.
    let old = with_frames (with_tables s c.args.tables.now) (frames_of c.args.frames.now.entries) in
    (release_held c.args.engine c.args.number old c.args.program.now c.in-Some.rule.now (c.in-Some.ensures s) (sym c.if-not-is_releasable.ensures), refl)

pub returns-in_err-procedure-clause-releases : goal.returns-in_err-procedure-clause-releases
returns-in_err-procedure-clause-releases c = λ s.
    let old = with_frames (with_tables s c.args.tables.now) (frames_of c.args.frames.now.entries) in
    let p = err_from_is_err_and c.from_residual.result c.from_residual.ensures.1 in
    rw (p.1, p.2) (release_stopped c.args.engine c.args.number old c.args.program.now c.in-Some.rule.now (c.in-Some.ensures s) (sym c.if-not-is_releasable.ensures) c.procedure.result _ c.procedure.ensures c.in_err-procedure.ensures, refl)

pub returns-clause-releases : goal.returns-clause-releases
returns-clause-releases c = λ s.
    released c.args.engine c.args.number s c.args.tables.now (frames_of c.args.frames.now.entries) c.in-Some.rule.now (c.in-Some.ensures s) c.args.program.now
    c.procedure.result c.in_ok-procedure.procedure.now c.in_ok-task.task c.put.new.self c.remove.new.self (sym c.if-not-is_releasable.ensures) c.procedure.ensures c.in_ok-procedure.ensures
    c.in_ok-task.ensures c.in_ok-put.ensures.put c.remove.ensures

pub returns-in_err-task-clause-memory : goal.returns-in_err-task-clause-memory
returns-in_err-task-clause-memory c = λ is s.
    releases c.args.engine c.args.number s c.args.tables.now (frames_of c.args.frames.now.entries) c.in-Some.rule.now (c.in-Some.ensures s) c.args.program.now
    c.procedure.result c.in_ok-procedure.procedure.now (sym c.if-not-is_releasable.ensures) c.procedure.ensures c.in_ok-procedure.ensures

pub returns-in_err-put-clause-memory : goal.returns-in_err-put-clause-memory
returns-in_err-put-clause-memory c = λ is s.
    releases c.args.engine c.args.number s c.args.tables.now (frames_of c.args.frames.now.entries) c.in-Some.rule.now (c.in-Some.ensures s) c.args.program.now
    c.procedure.result c.in_ok-procedure.procedure.now (sym c.if-not-is_releasable.ensures) c.procedure.ensures c.in_ok-procedure.ensures
