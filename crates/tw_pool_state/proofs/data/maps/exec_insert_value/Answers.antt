use Rattle.tw_pool_state.proofs.PartNames.{FrameView, ap, at_goal, at_next_place, draft_of, frame_after, named, refl, sym, unchanged, ◌+◌, ◌∙◌}
use Rattle.tw_pool_state.proofs.Maps.{none_copied, put_absent, put_declared, put_done, put_here, put_inside, put_refused, put_right, put_takes_it, there_copied}
use Rattle.tw_pool_state.proofs.data.maps.exec_insert_value.Goals as goal

pub look-at-requires : goal.look-at-requires
look-at-requires c = put_inside c.args.map c.args.subscript c.args.from c.args.skip c.args.store.now (frame_after c.args.frame.now c.args.done) c.requires.may

pub peek_write-right-requires : goal.peek_write-right-requires
peek_write-right-requires c = put_right c.args.map c.args.subscript c.args.from c.args.skip c.args.store.now (frame_after c.args.frame.now c.args.done) c.requires.may

pub written_entry-requires : goal.written_entry-requires
written_entry-requires c = put_here c.args.map c.args.subscript c.args.from c.args.skip c.args.store.now (frame_after c.args.frame.now c.args.done) c.requires.may c.peek_write-right.result.now c.peek_write-right.ensures (named c.look-at.result) c.look-at.ensures.is

pub returns-then-is_some : goal.returns-then-is_some
returns-then-is_some c =
    let old = there_copied c.written_entry.result _ c.written_entry.ensures (sym c.is_some.ensures ∙ c.if-is_some.true) in
    let is = c.skip.ensures ∙ ap (λ (n : FrameView). record n { position = at_goal n.position c.args.skip; spent = n.spent + 1 }) c.complete_job-draft.ensures.taken in
    record {
      is_done = put_refused c.args.map c.args.subscript c.args.from c.args.skip c.args.store.now (frame_after c.args.frame.now c.args.done) c.requires.may c.peek_write-right.result.now c.peek_write-right.ensures (named c.look-at.result) c.look-at.ensures.is old.0 old.1 c.skip.new.self is;
      is_draft = c.complete_job-draft.ensures.draft ∙ ap draft_of c.complete_job-draft.ensures.taken ∙ sym (ap draft_of is);
    }

pub value-requires : goal.value-requires
value-requires c = put_declared c.args.map c.args.subscript c.args.from c.args.skip c.args.store.now (frame_after c.args.frame.now c.args.done) c.requires.may

pub returns-in_default : goal.returns-in_default
returns-in_default c =
    let none = none_copied c.written_entry.result _ c.written_entry.ensures (sym c.is_some.ensures ∙ c.if-is_some.false) in
    record {
      memory = put_absent c.args.map c.args.subscript c.args.from c.args.skip c.args.store.now (frame_after c.args.frame.now c.args.done) c.requires.may c.peek_write-right.result.now c.peek_write-right.ensures (named c.look-at.result) c.look-at.ensures.is none;
      store = unchanged _;
      frame = refl;
      is_back = refl;
    }

pub put-requires-clause-here : goal.put-requires-clause-here
put-requires-clause-here c = put_here c.args.map c.args.subscript c.args.from c.args.skip c.args.store.now (frame_after c.args.frame.now c.args.done) c.requires.may c.peek_write-right.result.now c.peek_write-right.ensures (named c.look-at.result) c.look-at.ensures.is

pub put-requires-clause-takes : goal.put-requires-clause-takes
put-requires-clause-takes c = put_takes_it c.args.map c.args.subscript c.args.from c.args.skip c.args.store.now (frame_after c.args.frame.now c.args.done) c.requires.may c.peek_write-right.result.now c.peek_write-right.ensures (named c.look-at.result) c.look-at.ensures.is c.in-Ok.value c.in-Ok.ensures.copy

pub returns-in-Ok-put : goal.returns-in-Ok-put
returns-in-Ok-put c =
    let none = none_copied c.written_entry.result _ c.written_entry.ensures (sym c.is_some.ensures ∙ c.if-is_some.false) in
    let is = c.to_next_place.ensures ∙ ap (λ (n : FrameView). record n { position = at_next_place n.position; spent = n.spent + 1 }) c.complete_job-draft-in-Ok-put.ensures.taken in
    record {
      is_done = put_done c.args.map c.args.subscript c.args.from c.args.skip c.args.store.now (frame_after c.args.frame.now c.args.done) c.requires.may c.peek_write-right.result.now c.peek_write-right.ensures (named c.look-at.result) c.look-at.ensures.is c.in-Ok.value c.in-Ok.ensures.copy c.put.new.self none c.in-Ok-put.ensures.put c.to_next_place.new.self is;
      is_draft = c.complete_job-draft-in-Ok-put.ensures.draft ∙ ap draft_of c.complete_job-draft-in-Ok-put.ensures.taken ∙ sym (ap draft_of is);
    }

pub returns-in-Err : goal.returns-in-Err
returns-in-Err c =
    let none = none_copied c.written_entry.result _ c.written_entry.ensures (sym c.is_some.ensures ∙ c.if-is_some.false) in
    record {
      memory = put_absent c.args.map c.args.subscript c.args.from c.args.skip c.args.store.now (frame_after c.args.frame.now c.args.done) c.requires.may c.peek_write-right.result.now c.peek_write-right.ensures (named c.look-at.result) c.look-at.ensures.is none;
      store = c.in-Err.ensures.refused;
      frame = refl;
      is_back = refl;
    }
