use Rattle.std.proofs.Common.{◌≡◌, ◌<◌, ◌∙◌, ℕ, List, None, false, true, arith, ap, cond, count_by, get_or, is_some, length, length-set, set, subst, sym}
use Rattle.std.specs.declared.option.Option.{Option}
use Rattle.tw_pool_state.proofs.PartNames.{AreKept, FrameView, RunningView, get, remove, slot_of, by_actor}
use Rattle.tw_pool_state.proofs.FrameBufferLists.{kept_ended}
use Rattle.tw_pool_state.proofs.Runners.{count_set, get_by_actor, low_slot, by_actor_without, with_tasks}
use Rattle.tw_pool_state.proofs.running_tasks.RunningTasks.end.Goals as goal

pub unreachable-requires : goal.unreachable-requires
unreachable-requires c =
    let none = sym (ap (λ k. get_or c.self.inside.frames.items k None) c.place-number.ensures.is ∙ sym (get_by_actor c.self.inside.frames.items c.args.actor c.requires.task_slot) ∙ ap (λ (r : RunningView). get r.tasks c.args.actor) c.self.view_is) ∙ sym c.take_task.ensures.taken ∙ c.in_default.is in
    let t : false ≡ true = ap is_some (sym none) ∙ c.requires.is_running in cc

pub put_buffers-requires : goal.put_buffers-requires
put_buffers-requires c = omega (arith, c.place-number.ensures.low, c.self.invariant.1.many)

pub invariant_of-self : goal.invariant_of-self
invariant_of-self c =
    let inside : c.place-number.result < length c.self.inside.frames.items = omega (arith, c.place-number.ensures.is, low_slot c.args.actor c.requires.task_slot, c.self.invariant.0.many) in
    let one : ◌≡◌ {A = ℕ} (cond (is_some (get_or c.self.inside.frames.items c.place-number.result None)) 1 0) 1 = ap (λ t. cond t 1 0) (ap is_some (ap (λ k. get_or c.self.inside.frames.items k None) c.place-number.ensures.is ∙ sym (get_by_actor c.self.inside.frames.items c.args.actor c.requires.task_slot) ∙ ap (λ (r : RunningView). get r.tasks c.args.actor) c.self.view_is) ∙ c.requires.is_running) in (
      record {
        many = ap length c.take_task.ensures.rest ∙ length-set c.self.inside.frames.items c.place-number.result None ∙ c.self.invariant.0.many;
        counted = let e = count_set c.self.inside.frames.items c.place-number.result None inside in omega (arith, e, one, c.self.invariant.0.counted, ap (count_by is_some) c.take_task.ensures.rest);
      },
      subst (λ (running_tasks : List (Option FrameView)). AreKept c.self.inside.layout running_tasks c.put_buffers.new.frame_buffers.items) (sym c.take_task.ensures.rest)
          (subst (λ (frame_buffers : List (Option (Unit {0}))). AreKept c.self.inside.layout (set c.self.inside.frames.items c.place-number.result None) frame_buffers) (sym c.put_buffers.ensures) (kept_ended c.self.inside.layout c.self.inside.frames.items c.self.inside.frame_buffers.items c.self.invariant.1 c.place-number.result c.place-number.ensures.low)),
    )

pub returns : goal.returns
returns c =
    let inside : slot_of c.args.actor < length c.self.inside.frames.items = omega (arith, low_slot c.args.actor c.requires.task_slot, c.self.invariant.0.many) in
    with_tasks c.self.inside.layout (by_actor c.take_task.new.frames.items) c.args.self.now (remove c.args.self.now.tasks c.args.actor) (ap (λ (r : RunningView). r.layout) c.self.view_is)
    (ap by_actor (c.take_task.ensures.rest ∙ ap (λ k. set c.self.inside.frames.items k None) c.place-number.ensures.is) ∙ by_actor_without c.self.inside.frames.items c.args.actor c.requires.task_slot inside ∙ ap (λ (r : RunningView). remove r.tasks c.args.actor) c.self.view_is)
