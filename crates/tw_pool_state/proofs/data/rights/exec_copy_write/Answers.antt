use Rattle.tw_pool_state.proofs.PartNames.{FrameView, None, Some, ap, at_next_place, draft_of, frame_after, slice_index_or, slice_set, sym, ◌+◌, ◌∙◌}
use Rattle.tw_rights.specs.declared.held.Held.TheVariants as held
use Rattle.tw_pool_state.proofs.Copies.{copy_write_allowed, copy_write_empty, copy_write_here, copy_write_right, write_copied_done, write_room}
use Rattle.tw_pool_state.proofs.data.rights.exec_copy_write.Goals as goal

pub peek_write-requires : goal.peek_write-requires
peek_write-requires c = copy_write_right c.args.to c.args.from c.args.store.now (frame_after c.args.frame.now c.args.done) c.requires.may

pub copy_write-right-requires-clause-here : goal.copy_write-right-requires-clause-here
copy_write-right-requires-clause-here c = copy_write_here c.args.to c.args.from c.args.store.now (frame_after c.args.frame.now c.args.done) c.requires.may c.peek_write.result.now c.peek_write.ensures

pub copy_write-right-requires-clause-room : goal.copy_write-right-requires-clause-room
copy_write-right-requires-clause-room c = write_room c.args.store.now (frame_after c.args.frame.now c.args.done) c.requires.may.room c.peek_write.result.now.id

pub fill-requires-clause-empty : goal.fill-requires-clause-empty
fill-requires-clause-empty c = ap (λ (n : FrameView). slice_index_or n.held c.args.to None) c.complete_job-draft.ensures.taken ∙ copy_write_empty c.args.to c.args.from c.args.store.now (frame_after c.args.frame.now c.args.done) c.requires.may

pub returns : goal.returns
returns c =
    let is = c.to_next_place.ensures ∙ ap (λ (n : FrameView). record n { position = at_next_place n.position; spent = n.spent + 1 })
    (c.fill.ensures ∙ ap (λ (n : FrameView). record n { held = slice_set n.held c.args.to (Some (held.Write c.copy_write-right.result)) }) c.complete_job-draft.ensures.taken) in
    record {
      is_done = write_copied_done c.args.to c.args.from c.args.store.now (frame_after c.args.frame.now c.args.done) c.requires.may c.peek_write.result.now c.peek_write.ensures c.copy_write-right.new.self c.copy_write-right.result c.copy_write-right.ensures.right c.copy_write-right.ensures.counted
          c.to_next_place.new.self is;
      is_draft = c.complete_job-draft.ensures.draft ∙ ap draft_of c.complete_job-draft.ensures.taken ∙ sym (ap draft_of is);
    }

pub copy_write-right-requires-clause-allowed : goal.copy_write-right-requires-clause-allowed
copy_write-right-requires-clause-allowed c = copy_write_allowed c.args.to c.args.from c.args.store.now (frame_after c.args.frame.now c.args.done) c.requires.may c.peek_write.result.now c.peek_write.ensures
