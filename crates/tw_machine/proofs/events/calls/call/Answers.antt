use Rattle.tw_machine.proofs.Names.{None, Some, actor_cmp-IsAntisymmetric, actor_cmp_total, ap, call_event, found_view, frames_of, with_frames, with_tables}
use Rattle.tw_machine.proofs.Frames.{is_few, call_idle, tables_come}
use Rattle.tw_machine.proofs.events.calls.call.Goals as goal

pub returns-in_default-clause-comes : goal.returns-in_default-clause-comes
returns-in_default-clause-comes c = λ s.
    let free = found_view actor_cmp_total actor_cmp-IsAntisymmetric c.args.frames.now c.args.actor None c.in_default.ensures.value in (
      call_idle c.args.program.now c.args.actor (with_frames (with_tables s c.args.tables.now) (frames_of c.args.frames.now.entries)) free,
      ap (λ m. with_frames (with_tables s c.args.tables.now) (frames_of m.entries)) c.get_mut.follows.holds-at-none,
    )

pub call_of-requires-clause-spent : goal.call_of-requires-clause-spent
call_of-requires-clause-spent c = is_few _ _ _ (found_view actor_cmp_total actor_cmp-IsAntisymmetric c.args.frames.now c.args.actor (Some c.in-Some.frame.now) c.in-Some.ensures.value) c.requires.spent

pub returns-clause-comes : goal.returns-clause-comes
returns-clause-comes c = λ s.
    tables_come c.args.frames.now (c.get_mut.follows.lender c.call_of.new.frame) c.args.actor c.in-Some.frame.now c.call_of.new.frame c.in-Some.ensures.value (c.get_mut.follows.holds c.call_of.new.frame)
    (call_event c.args.program.now c.args.actor) c.args.tables.now c.call_of.new.tables c.call_of.result s c.call_of.ensures.comes

pub returns-clause-memory : goal.returns-clause-memory
returns-clause-memory c = λ is s.
    c.call_of.ensures.memory is (with_frames s (frames_of c.args.frames.now.entries))
    (found_view actor_cmp_total actor_cmp-IsAntisymmetric c.args.frames.now c.args.actor (Some c.in-Some.frame.now) c.in-Some.ensures.value)
