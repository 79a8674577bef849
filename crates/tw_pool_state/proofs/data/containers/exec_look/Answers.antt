use Rattle.tw_pool_state.proofs.PartNames.{FrameView, None, Some, ap, at_goal, at_next_place, draft_of, frame_after, named, slice_index_or, slice_set, sym, ◌+◌, ◌∙◌}
use Rattle.tw_rights.specs.declared.held.Held.TheVariants as held
use Rattle.tw_pool_state.proofs.Looks.{look_allowed, look_empty, look_here, look_inside, look_right, look_room, looked_none, looked_some}
use Rattle.tw_pool_state.proofs.data.containers.exec_look.Goals as goal

pub look-at-requires : goal.look-at-requires
look-at-requires c = look_inside c.args.by c.args.member c.args.container c.args.subscript c.args.skip c.args.store.now (frame_after c.args.frame.now c.args.done) c.requires.may

pub peek_read-requires : goal.peek_read-requires
peek_read-requires c = look_right c.args.by c.args.member c.args.container c.args.subscript c.args.skip c.args.store.now (frame_after c.args.frame.now c.args.done) c.requires.may

pub look_under-requires-clause-here : goal.look_under-requires-clause-here
look_under-requires-clause-here c = look_here c.args.by c.args.member c.args.container c.args.subscript c.args.skip c.args.store.now (frame_after c.args.frame.now c.args.done) c.requires.may c.peek_read.result.now c.peek_read.ensures (named c.look-at.result) c.look-at.ensures.is

pub look_under-requires-clause-allowed : goal.look_under-requires-clause-allowed
look_under-requires-clause-allowed c =
    look_allowed c.args.by c.args.member c.args.container c.args.subscript c.args.skip c.args.store.now (frame_after c.args.frame.now c.args.done) c.requires.may c.peek_read.result.now c.peek_read.ensures (named c.look-at.result) c.look-at.ensures.is

pub look_under-requires-clause-room : goal.look_under-requires-clause-room
look_under-requires-clause-room c =
    look_room c.args.by c.args.member c.args.container c.args.subscript c.args.skip c.args.store.now (frame_after c.args.frame.now c.args.done) c.requires.may c.peek_read.result.now c.peek_read.ensures (named c.look-at.result) c.look-at.ensures.is

pub fill-requires-clause-empty : goal.fill-requires-clause-empty
fill-requires-clause-empty c =
    ap (λ (n : FrameView). slice_index_or n.held c.args.member None) c.complete_job-draft-in-Some.ensures.taken ∙ look_empty c.args.by c.args.member c.args.container c.args.subscript c.args.skip c.args.store.now (frame_after c.args.frame.now c.args.done) c.requires.may

pub returns-in-None : goal.returns-in-None
returns-in-None c =
    let is = c.skip.ensures ∙ ap (λ (n : FrameView). record n { position = at_goal n.position c.args.skip; spent = n.spent + 1 }) c.complete_job-draft.ensures.taken in
    record {
      is_done = looked_none c.args.by c.args.member c.args.container c.args.subscript c.args.skip c.args.store.now (frame_after c.args.frame.now c.args.done) c.requires.may c.peek_read.result.now c.peek_read.ensures (named c.look-at.result) c.look-at.ensures.is c.look_under.new.self c.in-None.ensures c.skip.new.self is;
      is_draft = c.complete_job-draft.ensures.draft ∙ ap draft_of c.complete_job-draft.ensures.taken ∙ sym (ap draft_of is);
    }

pub returns-in-Some : goal.returns-in-Some
returns-in-Some c =
    let is = c.to_next_place.ensures ∙ ap (λ (n : FrameView). record n { position = at_next_place n.position; spent = n.spent + 1 })
    (c.fill.ensures ∙ ap (λ (n : FrameView). record n { held = slice_set n.held c.args.member (Some (held.Read c.in-Some.right)) }) c.complete_job-draft-in-Some.ensures.taken) in
    record {
      is_done = looked_some c.args.by c.args.member c.args.container c.args.subscript c.args.skip c.args.store.now (frame_after c.args.frame.now c.args.done) c.requires.may c.peek_read.result.now c.peek_read.ensures (named c.look-at.result) c.look-at.ensures.is c.look_under.new.self c.in-Some.right c.in-Some.ensures
          c.to_next_place.new.self is;
      is_draft = c.complete_job-draft-in-Some.ensures.draft ∙ ap draft_of c.complete_job-draft-in-Some.ensures.taken ∙ sym (ap draft_of is);
    }
