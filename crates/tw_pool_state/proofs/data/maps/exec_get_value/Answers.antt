use Rattle.std.proofs.Common.{◌∙◌, ◌+◌, Some, sym, ap, refl, slice_get, option_map}
use Rattle.tw_pool_state.proofs.PartNames.{FrameView, at_goal, at_next_place, draft_of, frame_after, named, scalar_of, unchanged, with_value}
use Rattle.tw_pool_state.proofs.Maps.{read_fits, read_here, read_inside, read_none, read_right, read_some, read_text}
use Rattle.tw_pool_state.proofs.data.maps.exec_get_value.Goals as goal

pub look-at-requires : goal.look-at-requires
look-at-requires c = read_inside c.args.to c.args.map c.args.subscript c.args.skip c.args.store.now (frame_after c.args.frame.now c.args.done) c.requires.may

pub peek_read-requires : goal.peek_read-requires
peek_read-requires c = read_right c.args.to c.args.map c.args.subscript c.args.skip c.args.store.now (frame_after c.args.frame.now c.args.done) c.requires.may

pub entry-requires : goal.entry-requires
entry-requires c = read_here c.args.to c.args.map c.args.subscript c.args.skip c.args.store.now (frame_after c.args.frame.now c.args.done) c.requires.may c.peek_read.result.now c.peek_read.ensures (named c.look-at.result) c.look-at.ensures.is

pub returns-in_default : goal.returns-in_default
returns-in_default c = record {
  memory = read_text c.args.to c.args.map c.args.subscript c.args.skip c.args.store.now (frame_after c.args.frame.now c.args.done) c.requires.may c.peek_read.result.now c.peek_read.ensures (named c.look-at.result) c.look-at.ensures.is c.in-Some.found.now (sym c.in-Some.ensures) c.in_default.ensures.text;
  store = unchanged _;
  frame = refl;
  is_back = refl;
}

pub set_result-requires-clause-fits : goal.set_result-requires-clause-fits
set_result-requires-clause-fits c =
    let found = sym c.in-Some.ensures ∙ ap Some (sym c.in-Ok.ensures.first) in
    ap (λ (n : FrameView). option_map scalar_of (slice_get n.position.values c.args.to)) c.complete_job-draft.ensures.taken
    ∙ read_fits c.args.to c.args.map c.args.subscript c.args.skip c.args.store.now (frame_after c.args.frame.now c.args.done) c.requires.may c.peek_read.result.now c.peek_read.ensures (named c.look-at.result) c.look-at.ensures.is c.in-Ok.copies.0 found

pub returns-in-Ok : goal.returns-in-Ok
returns-in-Ok c =
    let found = sym c.in-Some.ensures ∙ ap Some (sym c.in-Ok.ensures.first) in
    let is = c.set_result.ensures.given ∙ ap (λ (n : FrameView). record n { position = at_next_place (with_value n.position c.args.to c.in-Ok.copies.0); spent = n.spent + 1 }) c.complete_job-draft.ensures.taken in
    record {
      is_done = read_some c.args.to c.args.map c.args.subscript c.args.skip c.args.store.now (frame_after c.args.frame.now c.args.done) c.requires.may c.peek_read.result.now c.peek_read.ensures (named c.look-at.result) c.look-at.ensures.is c.in-Ok.copies.0 found c.set_result.new.frame is;
      is_draft = c.set_result.ensures.drafted;
    }

pub returns-in-None : goal.returns-in-None
returns-in-None c =
    let is = c.skip.ensures ∙ ap (λ (n : FrameView). record n { position = at_goal n.position c.args.skip; spent = n.spent + 1 }) c.complete_job-draft-in-None.ensures.taken in
    record {
      is_done = read_none c.args.to c.args.map c.args.subscript c.args.skip c.args.store.now (frame_after c.args.frame.now c.args.done) c.requires.may c.peek_read.result.now c.peek_read.ensures (named c.look-at.result) c.look-at.ensures.is (sym c.in-None.ensures) c.skip.new.self is;
      is_draft = c.complete_job-draft-in-None.ensures.draft ∙ ap draft_of c.complete_job-draft-in-None.ensures.taken ∙ sym (ap draft_of is);
    }
