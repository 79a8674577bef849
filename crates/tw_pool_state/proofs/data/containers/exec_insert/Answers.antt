use Rattle.std.proofs.Common.{◌∙◌, ◌+◌, ap, sym, refl, subst, slice_set, Some, Ok}
use Rattle.tw_pool_state.proofs.PartNames.{FrameView, Inserted, IsInsertion, at_goal, at_next_place, draft_of, frame_after, job_of, named}
use Rattle.tw_rights.specs.declared.held.Held.TheVariants as held
use Rattle.tw_pool_state.proofs.Inserts.{insert_absent, insert_allowed, insert_here, insert_inside, insert_member_here, insert_read, insert_write, inserted_none, inserted_some}
use Rattle.tw_pool_state.proofs.Registers.{put_back}
use Rattle.tw_pool_state.proofs.data.containers.exec_insert.Goals as goal

pub look-at-requires : goal.look-at-requires
look-at-requires c = insert_inside c.args.by c.args.container c.args.subscript c.args.member c.args.skip c.args.store.now (frame_after c.args.frame.now c.args.done) c.requires.may

pub take_read-right-requires : goal.take_read-right-requires
take_read-right-requires c = insert_read c.args.by c.args.container c.args.subscript c.args.member c.args.skip c.args.store.now (frame_after c.args.frame.now c.args.done) c.requires.may

pub peek_write-requires : goal.peek_write-requires
peek_write-requires c = insert_write c.args.by c.args.container c.args.subscript c.args.member c.args.skip c.args.store.now (frame_after c.args.frame.now c.args.done) c.requires.may c.take_read-right.new.self (ap (λ (n : FrameView). n.held) c.take_read-right.ensures.rest)

pub insert_under-requires-clause-here : goal.insert_under-requires-clause-here
insert_under-requires-clause-here c = insert_here c.args.by c.args.container c.args.subscript c.args.member c.args.skip c.args.store.now (frame_after c.args.frame.now c.args.done) c.requires.may c.take_read-right.result c.take_read-right.ensures.taken c.take_read-right.new.self (ap (λ (n : FrameView). n.held) c.take_read-right.ensures.rest) c.peek_write.result.now c.peek_write.ensures (named c.look-at.result) c.look-at.ensures.is

pub insert_under-requires-clause-member_here : goal.insert_under-requires-clause-member_here
insert_under-requires-clause-member_here c = insert_member_here c.args.by c.args.container c.args.subscript c.args.member c.args.skip c.args.store.now (frame_after c.args.frame.now c.args.done) c.requires.may c.take_read-right.result c.take_read-right.ensures.taken c.take_read-right.new.self (ap (λ (n : FrameView). n.held) c.take_read-right.ensures.rest) c.peek_write.result.now c.peek_write.ensures (named c.look-at.result) c.look-at.ensures.is

pub insert_under-requires-clause-allowed : goal.insert_under-requires-clause-allowed
insert_under-requires-clause-allowed c = insert_allowed c.args.by c.args.container c.args.subscript c.args.member c.args.skip c.args.store.now (frame_after c.args.frame.now c.args.done) c.requires.may c.take_read-right.result c.take_read-right.ensures.taken c.take_read-right.new.self (ap (λ (n : FrameView). n.held) c.take_read-right.ensures.rest) c.peek_write.result.now c.peek_write.ensures (named c.look-at.result) c.look-at.ensures.is

pub complete_job-draft-requires-clause-own : goal.complete_job-draft-requires-clause-own
complete_job-draft-requires-clause-own c = c.requires.own ∙ ap job_of (sym c.take_read-right.ensures.rest)

pub returns-in-Ok-Done : goal.returns-in-Ok-Done
returns-in-Ok-Done c =
    let e = subst (λ (a : Inserted). IsInsertion c.args.store.now c.peek_write.result.now.id (named c.look-at.result) c.take_read-right.result (Ok a) c.insert_under.new.self) c.in-Ok-Done.field-0-is c.in-Ok-Done.ensures in
    let came = c.complete_job-draft.ensures.taken ∙ ap (λ (n : FrameView). frame_after n c.args.done) c.take_read-right.ensures.rest in
    let is = c.to_next_place.ensures ∙ ap (λ (n : FrameView). record n { position = at_next_place n.position; spent = n.spent + 1 }) came in
    record {
      is_done = inserted_some c.args.by c.args.container c.args.subscript c.args.member c.args.skip c.args.store.now (frame_after c.args.frame.now c.args.done) c.requires.may c.take_read-right.result c.take_read-right.ensures.taken c.take_read-right.new.self (ap (λ (n : FrameView). n.held) c.take_read-right.ensures.rest) c.peek_write.result.now c.peek_write.ensures (named c.look-at.result) c.look-at.ensures.is c.insert_under.new.self e.0 e.1 c.to_next_place.new.self is;
      is_draft = c.complete_job-draft.ensures.draft ∙ ap draft_of came ∙ sym (ap draft_of is);
    }

pub complete_job-draft-requires-in-Ok-Present-clause-own : goal.complete_job-draft-requires-in-Ok-Present-clause-own
complete_job-draft-requires-in-Ok-Present-clause-own c = c.requires.own ∙ ap job_of (sym (c.fill.ensures ∙ ap (λ (n : FrameView). record n { held = slice_set n.held c.args.member (Some (held.Read c.in-Ok-Present.back)) }) c.take_read-right.ensures.rest))

pub returns-in-Ok-Present : goal.returns-in-Ok-Present
returns-in-Ok-Present c =
    let e = subst (λ (a : Inserted). IsInsertion c.args.store.now c.peek_write.result.now.id (named c.look-at.result) c.take_read-right.result (Ok a) c.insert_under.new.self) c.in-Ok-Present.field-0-is c.in-Ok-Present.ensures in
    let same = put_back c.args.frame.now c.take_read-right.new.self c.fill.new.self c.args.member (held.Read c.take_read-right.result) (held.Read c.in-Ok-Present.back) c.take_read-right.ensures.taken c.take_read-right.ensures.rest (ap held.Read e.1) c.fill.ensures in
    let came = c.complete_job-draft-in-Ok-Present.ensures.taken ∙ ap (λ (n : FrameView). frame_after n c.args.done) same in
    let is = c.skip.ensures ∙ ap (λ (n : FrameView). record n { position = at_goal n.position c.args.skip; spent = n.spent + 1 }) came in
    record {
      is_done = inserted_none c.args.by c.args.container c.args.subscript c.args.member c.args.skip c.args.store.now (frame_after c.args.frame.now c.args.done) c.requires.may c.take_read-right.result c.take_read-right.ensures.taken c.take_read-right.new.self (ap (λ (n : FrameView). n.held) c.take_read-right.ensures.rest) c.peek_write.result.now c.peek_write.ensures (named c.look-at.result) c.look-at.ensures.is c.insert_under.new.self e.0 e.2 c.skip.new.self is;
      is_draft = c.complete_job-draft-in-Ok-Present.ensures.draft ∙ ap draft_of came ∙ sym (ap draft_of is);
    }

pub returns-in-Err : goal.returns-in-Err
returns-in-Err c =
    let e = c.in-Err.ensures in
    record {
      memory = insert_absent c.args.by c.args.container c.args.subscript c.args.member c.args.skip c.args.store.now (frame_after c.args.frame.now c.args.done) c.requires.may c.take_read-right.result c.take_read-right.ensures.taken c.take_read-right.new.self (ap (λ (n : FrameView). n.held) c.take_read-right.ensures.rest) c.peek_write.result.now c.peek_write.ensures (named c.look-at.result) c.look-at.ensures.is e.0;
      store = e.2;
      frame = put_back c.args.frame.now c.take_read-right.new.self c.fill-in-Err.new.self c.args.member (held.Read c.take_read-right.result) (held.Read c.in-Err.back) c.take_read-right.ensures.taken c.take_read-right.ensures.rest (ap held.Read e.1) c.fill-in-Err.ensures;
      is_back = refl;
    }
