use Rattle.tw_pool_state.proofs.PartNames.{FrameView, None, Some, ap, at_next_place, draft_of, frame_after, slice_index_or, slice_set, sym, ◌+◌, ◌∙◌}
use Rattle.tw_rights.specs.declared.held.Held.TheVariants as held
use Rattle.tw_pool_state.proofs.Copies.{copy_read_empty, copy_read_here, copy_read_right, read_copied_done, read_room}
use Rattle.tw_pool_state.proofs.data.rights.exec_copy_read.Goals as goal

pub peek_read-requires : goal.peek_read-requires
peek_read-requires c = copy_read_right c.args.to c.args.from c.args.store.now (frame_after c.args.frame.now c.args.done) c.requires.may

pub copy_read-right-requires-clause-here : goal.copy_read-right-requires-clause-here
copy_read-right-requires-clause-here c = copy_read_here c.args.to c.args.from c.args.store.now (frame_after c.args.frame.now c.args.done) c.requires.may c.peek_read.result.now c.peek_read.ensures

pub copy_read-right-requires-clause-room : goal.copy_read-right-requires-clause-room
copy_read-right-requires-clause-room c = read_room c.args.store.now (frame_after c.args.frame.now c.args.done) c.requires.may.room c.peek_read.result.now.id

pub fill-requires-clause-empty : goal.fill-requires-clause-empty
fill-requires-clause-empty c = ap (λ (n : FrameView). slice_index_or n.held c.args.to None) c.complete_job-draft.ensures.taken ∙ copy_read_empty c.args.to c.args.from c.args.store.now (frame_after c.args.frame.now c.args.done) c.requires.may

pub returns : goal.returns
returns c =
    let is = c.to_next_place.ensures ∙ ap (λ (n : FrameView). record n { position = at_next_place n.position; spent = n.spent + 1 })
    (c.fill.ensures ∙ ap (λ (n : FrameView). record n { held = slice_set n.held c.args.to (Some (held.Read c.copy_read-right.result)) }) c.complete_job-draft.ensures.taken) in
    record {
      is_done = read_copied_done c.args.to c.args.from c.args.store.now (frame_after c.args.frame.now c.args.done) c.requires.may c.peek_read.result.now c.peek_read.ensures c.copy_read-right.new.self c.copy_read-right.result c.copy_read-right.ensures.right c.copy_read-right.ensures.counted
          c.to_next_place.new.self is;
      is_draft = c.complete_job-draft.ensures.draft ∙ ap draft_of c.complete_job-draft.ensures.taken ∙ sym (ap draft_of is);
    }
