use Rattle.tw_pool_state.proofs.PartNames.{FrameView, ap, at_next_place, draft_of, frame_after, job_of, refl, sym, ◌+◌, ◌∙◌}
use Rattle.tw_rights.specs.declared.held.Held.TheVariants as held
use Rattle.tw_pool_state.proofs.Drops.{drop_write_allowed, drop_write_here, drop_write_right, write_dropped_done}
use Rattle.tw_pool_state.proofs.Registers.{id_at, more_than, put_back}
use Rattle.tw_pool_state.proofs.data.rights.exec_drop_write.Goals as goal

pub take_write-right-requires : goal.take_write-right-requires
take_write-right-requires c = drop_write_right c.args.datum c.args.store.now (frame_after c.args.frame.now c.args.done) c.requires.may

pub drop_write-requires-clause-here : goal.drop_write-requires-clause-here
drop_write-requires-clause-here c = drop_write_here c.args.datum c.args.store.now (frame_after c.args.frame.now c.args.done) c.requires.may c.take_write-right.result c.take_write-right.ensures.taken

pub drop_write-requires-clause-allowed : goal.drop_write-requires-clause-allowed
drop_write-requires-clause-allowed c = drop_write_allowed c.args.datum c.args.store.now (frame_after c.args.frame.now c.args.done) c.requires.may c.take_write-right.result c.take_write-right.ensures.taken

pub complete_job-draft-requires-clause-own : goal.complete_job-draft-requires-clause-own
complete_job-draft-requires-clause-own c = c.requires.own ∙ ap job_of (sym c.take_write-right.ensures.rest)

pub returns-in-Ok : goal.returns-in-Ok
returns-in-Ok c =
    let came = c.complete_job-draft.ensures.taken ∙ ap (λ (n : FrameView). frame_after n c.args.done) c.take_write-right.ensures.rest in
    let is = c.to_next_place.ensures ∙ ap (λ (n : FrameView). record n { position = at_next_place n.position; spent = n.spent + 1 }) came in
    record {
      is_done = write_dropped_done c.args.datum c.args.store.now (frame_after c.args.frame.now c.args.done) c.requires.may c.take_write-right.result c.take_write-right.ensures.taken c.drop_write.new.self c.in-Ok.ensures.dropped c.to_next_place.new.self is;
      is_draft = c.complete_job-draft.ensures.draft ∙ ap draft_of came ∙ sym (ap draft_of is);
    }

pub returns-in-Err : goal.returns-in-Err
returns-in-Err c = record {
  memory = (c.take_write-right.result.id, id_at c.args.frame.now.held c.args.datum (held.Write c.take_write-right.result) c.take_write-right.ensures.taken, more_than _ _ c.in-Err.ensures.reserved);
  store = c.in-Err.ensures.refused;
  frame = put_back c.args.frame.now c.take_write-right.new.self c.fill.new.self c.args.datum (held.Write c.take_write-right.result) (held.Write c.in-Err.right) c.take_write-right.ensures.taken c.take_write-right.ensures.rest
      (ap held.Write c.in-Err.ensures.back) c.fill.ensures;
  is_back = refl;
}
