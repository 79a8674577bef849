use Rattle.tw_pool_state.proofs.PartNames.{FrameView, ap, at_next_place, draft_of, frame_after, job_of, sym, ◌+◌, ◌∙◌}
use Rattle.tw_pool_state.proofs.Drops.{drop_read_allowed, drop_read_here, drop_read_right, read_dropped_done}
use Rattle.tw_pool_state.proofs.data.rights.exec_drop_read.Goals as goal

pub take_read-right-requires : goal.take_read-right-requires
take_read-right-requires c = drop_read_right c.args.datum c.args.store.now (frame_after c.args.frame.now c.args.done) c.requires.may

pub drop_read-requires-clause-here : goal.drop_read-requires-clause-here
drop_read-requires-clause-here c = drop_read_here c.args.datum c.args.store.now (frame_after c.args.frame.now c.args.done) c.requires.may c.take_read-right.result c.take_read-right.ensures.taken

pub drop_read-requires-clause-allowed : goal.drop_read-requires-clause-allowed
drop_read-requires-clause-allowed c = drop_read_allowed c.args.datum c.args.store.now (frame_after c.args.frame.now c.args.done) c.requires.may c.take_read-right.result c.take_read-right.ensures.taken

pub complete_job-draft-requires-clause-own : goal.complete_job-draft-requires-clause-own
complete_job-draft-requires-clause-own c = c.requires.own ∙ ap job_of (sym c.take_read-right.ensures.rest)

pub returns : goal.returns
returns c =
    let came = c.complete_job-draft.ensures.taken ∙ ap (λ (n : FrameView). frame_after n c.args.done) c.take_read-right.ensures.rest in
    let is = c.to_next_place.ensures ∙ ap (λ (n : FrameView). record n { position = at_next_place n.position; spent = n.spent + 1 }) came in
    record {
      is_done = read_dropped_done c.args.datum c.args.store.now (frame_after c.args.frame.now c.args.done) c.requires.may c.take_read-right.result c.take_read-right.ensures.taken c.drop_read.new.self c.drop_read.ensures.dropped c.drop_read.ensures.places c.drop_read.ensures.quiet
          c.to_next_place.new.self is;
      is_draft = c.complete_job-draft.ensures.draft ∙ ap draft_of came ∙ sym (ap draft_of is);
    }
