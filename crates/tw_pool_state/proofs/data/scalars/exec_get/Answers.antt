use Rattle.tw_pool_state.proofs.PartNames.{FrameView, ap, at_next_place, frame_after, option_map, refl, scalar_of, slice_get, unchanged, with_value, ◌+◌, ◌∙◌}
use Rattle.tw_types.specs.declared.value.Value.TheVariants as value
use Rattle.tw_pool_state.proofs.Gets.{get_allowed, get_fits, get_here, get_right, got_done}
use Rattle.tw_pool_state.proofs.ValueRegisters.{text_there}
use Rattle.tw_pool_state.proofs.data.scalars.exec_get.Goals as goal

pub peek_read-requires : goal.peek_read-requires
peek_read-requires c = get_right c.args.to c.args.datum c.args.store.now (frame_after c.args.frame.now c.args.done) c.requires.may

pub two_copies-requires-clause-here : goal.two_copies-requires-clause-here
two_copies-requires-clause-here c = get_here c.args.to c.args.datum c.args.store.now (frame_after c.args.frame.now c.args.done) c.requires.may c.peek_read.result.now c.peek_read.ensures

pub two_copies-requires-clause-allowed : goal.two_copies-requires-clause-allowed
two_copies-requires-clause-allowed c = get_allowed c.args.to c.args.datum c.args.store.now (frame_after c.args.frame.now c.args.done) c.requires.may c.peek_read.result.now c.peek_read.ensures

pub returns-in_default : goal.returns-in_default
returns-in_default c =
    let text = c.in_default.ensures.texts in
    record {
      memory = text_there c.args.done.after.values c.args.to text.0
          (get_fits c.args.to c.args.datum c.args.store.now (frame_after c.args.frame.now c.args.done) c.requires.may c.peek_read.result.now c.peek_read.ensures (value.Text text.0) text.1);
      store = unchanged _;
      frame = refl;
      is_back = refl;
    }

pub set_result-requires-clause-fits : goal.set_result-requires-clause-fits
set_result-requires-clause-fits c =
    ap (λ (n : FrameView). option_map scalar_of (slice_get n.position.values c.args.to)) c.complete_job-draft.ensures.taken
    ∙ get_fits c.args.to c.args.datum c.args.store.now (frame_after c.args.frame.now c.args.done) c.requires.may c.peek_read.result.now c.peek_read.ensures c.in-Ok.copies.0 c.in-Ok.ensures.first

pub returns : goal.returns
returns c =
    let is = c.set_result.ensures.given ∙ ap (λ (n : FrameView). record n { position = at_next_place (with_value n.position c.args.to c.in-Ok.copies.0); spent = n.spent + 1 }) c.complete_job-draft.ensures.taken in
    record {
      is_done = got_done c.args.to c.args.datum c.args.store.now (frame_after c.args.frame.now c.args.done) c.requires.may c.peek_read.result.now c.peek_read.ensures c.in-Ok.copies.0 c.in-Ok.ensures.first c.set_result.new.frame is;
      is_draft = c.set_result.ensures.drafted;
    }
