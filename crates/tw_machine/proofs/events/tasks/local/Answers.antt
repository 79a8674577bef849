use Rattle.tw_machine.proofs.Names.{None, Some, actor_cmp-IsAntisymmetric, actor_cmp_total, ap, found_view, frames_of, local_event, with_frames}
use Rattle.tw_machine.proofs.Frames.{is_few, local_idle, frames_come}
use Rattle.tw_machine.proofs.events.tasks.local.Goals as goal

pub returns-in_default-clause-goes : goal.returns-in_default-clause-goes
returns-in_default-clause-goes c = λ s.
    let free = found_view actor_cmp_total actor_cmp-IsAntisymmetric c.args.frames.now c.args.actor None c.in_default.ensures.value in (
      local_idle c.args.program.now c.args.actor (with_frames s (frames_of c.args.frames.now.entries)) free c.args.steps,
      ap (λ m. with_frames s (frames_of m.entries)) c.get_mut.follows.holds-at-none,
    )

pub local_of-requires-clause-spent : goal.local_of-requires-clause-spent
local_of-requires-clause-spent c = is_few _ _ _ (found_view actor_cmp_total actor_cmp-IsAntisymmetric c.args.frames.now c.args.actor (Some c.in-Some.frame.now) c.in-Some.ensures.value) c.requires.spent

pub returns-clause-goes : goal.returns-clause-goes
returns-clause-goes c = frames_come c.args.frames.now (c.get_mut.follows.lender c.local_of.new.frame) c.args.actor c.in-Some.frame.now c.local_of.new.frame c.in-Some.ensures.value (c.get_mut.follows.holds c.local_of.new.frame)
    (λ actor. local_event c.args.program.now actor c.args.steps) c.local_of.result c.local_of.ensures.goes

pub returns-clause-memory : goal.returns-clause-memory
returns-clause-memory c = λ is s.
    c.local_of.ensures.memory is (with_frames s (frames_of c.args.frames.now.entries)) c.args.actor
    (found_view actor_cmp_total actor_cmp-IsAntisymmetric c.args.frames.now c.args.actor (Some c.in-Some.frame.now) c.in-Some.ensures.value)
