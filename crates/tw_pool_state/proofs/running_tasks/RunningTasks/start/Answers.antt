use Rattle.std.proofs.Common.{◌≡◌, ◌<◌, ◌∙◌, ℕ, List, Some, None, Ok, [], arith, ap, cond, count_by, get_or, is_some, length, length-set, option_map, refl, set, slice_get, subst, sym}
use Rattle.tw_pool_state.proofs.PartNames.{Actor, AreKept, Arg, FrameView, MayBeAt, Procedure, RunningView, StartsAsMachine, TaskOf, TypedProgram, Value, bare_frame, begun, by_actor, filed, get, insert, is_in, issued_as, job_of, rights_in, same_Some, slot_of, started, taken_task, without}
use Rattle.std.specs.declared.option.Option.{Option}
use Rattle.tw_rights.specs.declared.task.Task.{Task}
use Rattle.tw_pool_state.proofs.FrameBufferLists.{kept_begun, kept_laid, room_there}
use Rattle.tw_pool_state.proofs.Runners.{count_set, get_by_actor, low_slot, by_actor_put}
use Rattle.tw_pool_state.proofs.running_tasks.RunningTasks.start.Goals as goal

-- the task that is taken is an entry's
handed : (o : Option (ℕ × TaskOf Arg)) (x : Task) → Some x ≡ option_map taken_task o → (e : ℕ × TaskOf Arg) × (o ≡ Some e) × (taken_task e ≡ x)
handed None x h = cc
handed (Some e) x h = (e, refl, sym (same_Some x (taken_task e) h))

-- the frame that starts
abbrev begun_so : TypedProgram → Task → Actor → List Value → FrameView
begun_so verified task actor own = record { program = verified; task = task.no; procedure = task.procedure; actor = actor; event_no = 0; position = record { place = 0; values = own; loops = [] }; held = filed (rights_in task.args); spent = 0 }

-- is the entry's
module _ (verified : TypedProgram) (actor : Actor) (e : ℕ × TaskOf Arg) (x : Task) (same : taken_task e ≡ x) (own : List Value) where
  starts_so : ((p : Procedure) → slice_get verified.program x.procedure ≡ Some p → started x.args p.registers ≡ Ok own) → (p : Procedure) → slice_get verified.program e.1.procedure ≡ Some p → started e.1.args p.registers ≡ Ok own
  starts_so h = subst (λ (t : Task). (p : Procedure) → slice_get verified.program t.procedure ≡ Some p → started t.args p.registers ≡ Ok own) (sym same) h

  module _ (f : FrameView) (is : f ≡ begun_so verified x actor own) where
    is_begun : f ≡ begun verified actor 0 e own
    is_begun = is ∙ ap (λ (t : Task). begun_so verified t actor own) (sym same)

    machine_so : StartsAsMachine verified.program x.no x.procedure x.args own (bare_frame f) → StartsAsMachine verified.program e.0 e.1.procedure e.1.args own (bare_frame (begun verified actor 0 e own))
    machine_so h = subst (λ (t : Task). StartsAsMachine verified.program t.no t.procedure t.args own (bare_frame (begun_so verified t actor own))) (sym same)
        (subst (λ (g : FrameView). StartsAsMachine verified.program x.no x.procedure x.args own (bare_frame g)) is h)

    position_so : MayBeAt verified.program e.1.procedure (begun verified actor 0 e own).position → MayBeAt f.program.program f.procedure f.position
    position_so h = subst (λ (g : FrameView). MayBeAt g.program.program g.procedure g.position) (sym is_begun) h

pub take_buffers-requires-clause-inside : goal.take_buffers-requires-clause-inside
take_buffers-requires-clause-inside c = omega (arith, c.place-number.ensures.low, c.self.invariant.1.many)

pub take_buffers-requires-clause-there : goal.take_buffers-requires-clause-there
take_buffers-requires-clause-there c =
    let e = handed _ c.in-Some.best.now c.in-Some.ensures in
    room_there c.self.inside.layout c.self.inside.frames.items c.self.inside.frame_buffers.items c.self.invariant.1 c.args.actor c.requires.task_slot c.args.tasks.now.tasks e.0 e.1
    (ap (λ (r : RunningView). is_in r.layout c.args.actor) c.self.view_is ∙ c.requires.in_layout) c.place-number.result c.place-number.ensures.is c.place-number.ensures.low (ap (λ k. get_or c.self.inside.frames.items k None) c.place-number.ensures.is ∙ sym (get_by_actor c.self.inside.frames.items c.args.actor c.requires.task_slot) ∙ ap (λ (r : RunningView). get r.tasks c.args.actor) c.self.view_is ∙ c.requires.empty)

pub put_buffers-requires : goal.put_buffers-requires
put_buffers-requires c = omega (arith, c.place-number.ensures.low, c.self.invariant.1.many, ap length c.take_buffers.ensures, length-set c.self.inside.frame_buffers.items c.place-number.result None)

pub invariant_of-self : goal.invariant_of-self
invariant_of-self c = (
  c.self.invariant.0,
  subst (λ (frame_buffers : List (Option (Unit {0}))). AreKept c.self.inside.layout c.self.inside.frames.items frame_buffers) (sym (c.put_buffers.ensures ∙ ap (λ (frame_buffers : List (Option (Unit {0}))). set frame_buffers c.place-number.result (Some tt)) c.take_buffers.ensures)) (kept_laid c.self.inside.layout c.self.inside.frames.items c.self.inside.frame_buffers.items c.self.invariant.1 c.place-number.result c.place-number.ensures.low),
)

pub put_task-requires-clause-empty : goal.put_task-requires-clause-empty
put_task-requires-clause-empty c = ap (λ k. get_or c.self.inside.frames.items k None) c.place-number.ensures.is ∙ sym (get_by_actor c.self.inside.frames.items c.args.actor c.requires.task_slot) ∙ ap (λ (r : RunningView). get r.tasks c.args.actor) c.self.view_is ∙ c.requires.empty

pub lend-job-requires-clause-fits_place : goal.lend-job-requires-clause-fits_place
lend-job-requires-clause-fits_place c =
    let e = handed _ c.in-Some.best.now c.in-Some.ensures in
    let same : taken_task e.0 ≡ c.in-Some-take.task = same_Some (taken_task e.0) c.in-Some-take.task (sym (ap (option_map taken_task) e.1) ∙ sym c.take.ensures.taken ∙ c.in-Some-take.is) in
    let verified = c.args.verified.now in let own = c.in-Ok.start.values in
    position_so verified c.args.actor e.0 c.in-Some-take.task same own c.start-frame.result.0 c.start-frame.ensures.is
    (c.requires.fits_place e.0 own e.1 (starts_so verified c.args.actor e.0 c.in-Some.best.now e.2 own c.in-Ok.ensures.started) (machine_so verified c.args.actor e.0 c.in-Some-take.task same own c.start-frame.result.0 c.start-frame.ensures.is c.start-frame.ensures.machine))

pub invariant_of-self-2 : goal.invariant_of-self-2
invariant_of-self-2 c =
    let inside : c.place-number.result < length c.self.inside.frames.items = omega (arith, c.place-number.ensures.is, low_slot c.args.actor c.requires.task_slot, c.self.invariant.0.many) in
    let empty : get_or c.self.inside.frames.items c.place-number.result None ≡ None = ap (λ k. get_or c.self.inside.frames.items k None) c.place-number.ensures.is ∙ sym (get_by_actor c.self.inside.frames.items c.args.actor c.requires.task_slot) ∙ ap (λ (r : RunningView). get r.tasks c.args.actor) c.self.view_is ∙ c.requires.empty in
    let none : ◌≡◌ {A = ℕ} (cond (is_some (get_or c.self.inside.frames.items c.place-number.result None)) 1 0) 0 = ap (λ o. cond (is_some o) 1 0) empty in (
      record {
        many = ap length c.put_task.ensures ∙ length-set c.self.inside.frames.items c.place-number.result (Some c.lend-job.new.self) ∙ c.self.invariant.0.many;
        counted = let e = count_set c.self.inside.frames.items c.place-number.result (Some c.lend-job.new.self) inside in omega (arith, e, none, c.self.invariant.0.counted, ap (count_by is_some) c.put_task.ensures);
      },
      subst (λ (running_tasks : List (Option FrameView)). AreKept c.self.inside.layout running_tasks c.take_buffers.new.frame_buffers.items) (sym c.put_task.ensures)
          (subst (λ (frame_buffers : List (Option (Unit {0}))). AreKept c.self.inside.layout (set c.self.inside.frames.items c.place-number.result (Some c.lend-job.new.self)) frame_buffers) (sym c.take_buffers.ensures) (kept_begun c.self.inside.layout c.self.inside.frames.items c.self.inside.frame_buffers.items c.self.invariant.1 c.place-number.result c.place-number.ensures.low c.lend-job.new.self c.self.invariant.0.many)),
    )

pub returns-clause-begun : goal.returns-clause-begun
returns-clause-begun c =
    let inside : slot_of c.args.actor < length c.self.inside.frames.items = omega (arith, low_slot c.args.actor c.requires.task_slot, c.self.invariant.0.many) in
    let e = handed _ c.in-Some.best.now c.in-Some.ensures in
    let same : taken_task e.0 ≡ c.in-Some-take.task = same_Some (taken_task e.0) c.in-Some-take.task (sym (ap (option_map taken_task) e.1) ∙ sym c.take.ensures.taken ∙ c.in-Some-take.is) in
    let verified = c.args.verified.now in let own = c.in-Ok.start.values in
    let frame = c.lend-job.new.self in
    let lent = c.lend-job.ensures.kept ∙ ap (λ (f : FrameView). issued_as c.args.event_no f) (is_begun verified c.args.actor e.0 c.in-Some-take.task same own c.start-frame.result.0 c.start-frame.ensures.is) in
    record {
      e = e.0;
      due = e.1;
      values = own;
      starts = starts_so verified c.args.actor e.0 c.in-Some.best.now e.2 own c.in-Ok.ensures.started;
      machine = machine_so verified c.args.actor e.0 c.in-Some-take.task same own c.start-frame.result.0 c.start-frame.ensures.is c.start-frame.ensures.machine;
      is_running = ap by_actor (c.put_task.ensures ∙ ap (λ k. set c.self.inside.frames.items k (Some frame)) c.place-number.ensures.is) ∙ by_actor_put c.self.inside.frames.items c.args.actor frame c.requires.task_slot inside ∙ ap (λ (r : RunningView). insert r.tasks c.args.actor frame) c.self.view_is
          ∙ ap (insert c.args.self.now.tasks c.args.actor) lent;
      rest = c.take.ensures.rest ∙ ap (λ o. without o c.args.tasks.now.tasks) e.1;
      lent = c.lend-job.ensures.lent ∙ ap job_of lent;
    }
