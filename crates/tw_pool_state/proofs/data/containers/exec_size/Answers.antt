use Rattle.std.proofs.Common.{◌∙◌, ◌<◌, ◌+◌, ◌^◌, ℤ, ap, arith, slice_get, to_z, w64}
use Rattle.tw_pool_state.proofs.PartNames.{FrameView, at_next_place, frame_after, option_map, scalar_of, to_z_pos, with_value}
use Rattle.tw_types.specs.declared.value.Value.TheVariants as value
use Rattle.tw_pool_state.proofs.Sizes.{size_allowed, size_done, size_few, size_fits, size_here, size_right}
use Rattle.tw_pool_state.proofs.data.containers.exec_size.Goals as goal

pub peek_read-requires : goal.peek_read-requires
peek_read-requires c = size_right c.args.to c.args.container c.args.store.now (frame_after c.args.frame.now c.args.done) c.requires.may

pub size-size-requires-clause-here : goal.size-size-requires-clause-here
size-size-requires-clause-here c = size_here c.args.to c.args.container c.args.store.now (frame_after c.args.frame.now c.args.done) c.requires.may c.peek_read.result.now c.peek_read.ensures

pub size-size-requires-clause-allowed : goal.size-size-requires-clause-allowed
size-size-requires-clause-allowed c = size_allowed c.args.to c.args.container c.args.store.now (frame_after c.args.frame.now c.args.done) c.requires.may c.peek_read.result.now c.peek_read.ensures

pub overflow_cast-size : goal.overflow_cast-size
overflow_cast-size c =
    let few = size_few c.args.to c.args.container c.args.store.now (frame_after c.args.frame.now c.args.done) c.requires.may c.peek_read.result.now c.peek_read.ensures in
    omega (arith, few, c.size-size.ensures)

pub set_result-requires-clause-fits : goal.set_result-requires-clause-fits
set_result-requires-clause-fits c =
    ap (λ (n : FrameView). option_map scalar_of (slice_get n.position.values c.args.to)) c.complete_job-draft.ensures.taken
    ∙ size_fits c.args.to c.args.container c.args.store.now (frame_after c.args.frame.now c.args.done) c.requires.may (to_z w64 c.size-size.result)

pub returns : goal.returns
returns c =
    let few = size_few c.args.to c.args.container c.args.store.now (frame_after c.args.frame.now c.args.done) c.requires.may c.peek_read.result.now c.peek_read.ensures in
    let low : c.size-size.result < 2 ^ 63 = omega (arith, few, c.size-size.ensures) in
    let is = c.set_result.ensures.given ∙ ap (λ (n : FrameView). record n { position = at_next_place (with_value n.position c.args.to (value.Int (to_z w64 c.size-size.result))); spent = n.spent + 1 }) c.complete_job-draft.ensures.taken
    ∙ ap (λ (n : ℤ). record (frame_after c.args.frame.now c.args.done) { position = at_next_place (with_value c.args.done.after c.args.to (value.Int n)); spent = c.args.frame.now.spent + c.args.done.steps + 1 }) (to_z_pos w64 c.size-size.result low) in
    record {
      is_done = size_done c.args.to c.args.container c.args.store.now (frame_after c.args.frame.now c.args.done) c.requires.may c.peek_read.result.now c.peek_read.ensures c.size-size.result c.size-size.ensures c.set_result.new.frame is;
      is_draft = c.set_result.ensures.drafted;
    }
