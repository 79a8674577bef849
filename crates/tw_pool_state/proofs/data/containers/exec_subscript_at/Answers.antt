use Rattle.std.proofs.Common.{◌≡◌, ◌∙◌, ◌+◌, Some, sym, ap, refl, arith, to_z, of_z, w64, slice_get, option_map}
use Rattle.tw_pool_state.proofs.PartNames.{FrameView, at_goal, at_next_place, draft_of, frame_after, scalar_of, subscript_after, subscripts_at, to_z-of_z, unchanged, with_value}
use Rattle.tw_pool_state.proofs.Sizes.{subscript_allowed, subscript_by, subscript_fits, subscript_here, subscript_int, subscript_none, subscript_right, subscript_some, subscript_there}
use Rattle.tw_pool_state.proofs.data.containers.exec_subscript_at.Goals as goal

pub number_at-count-requires : goal.number_at-count-requires
number_at-count-requires c = subscript_int c.args.by c.args.to c.args.container c.args.index c.args.skip c.args.store.now (frame_after c.args.frame.now c.args.done) c.requires.may

pub peek_read-requires : goal.peek_read-requires
peek_read-requires c = subscript_right c.args.by c.args.to c.args.container c.args.index c.args.skip c.args.store.now (frame_after c.args.frame.now c.args.done) c.requires.may

pub nth_subscript-requires-clause-here : goal.nth_subscript-requires-clause-here
nth_subscript-requires-clause-here c = subscript_here c.args.by c.args.to c.args.container c.args.index c.args.skip c.args.store.now (frame_after c.args.frame.now c.args.done) c.requires.may c.peek_read.result.now c.peek_read.ensures c.number_at-count.result c.number_at-count.ensures

pub nth_subscript-requires-clause-allowed : goal.nth_subscript-requires-clause-allowed
nth_subscript-requires-clause-allowed c = subscript_allowed c.args.by c.args.to c.args.container c.args.index c.args.skip c.args.store.now (frame_after c.args.frame.now c.args.done) c.requires.may c.peek_read.result.now c.peek_read.ensures c.number_at-count.result c.number_at-count.ensures

pub returns-in_default : goal.returns-in_default
returns-in_default c =
    let key : to_z w64 (of_z w64 c.number_at-count.result) ≡ c.number_at-count.result = grind (arith, to_z-of_z) in
    let found = ap (λ k. subscript_after k (subscripts_at c.args.store.now.store c.peek_read.result.now.id)) (sym key) ∙ sym c.in-Some.ensures.found in
    record {
      memory = (
        sym (subscript_by c.args.by c.args.to c.args.container c.args.index c.args.skip c.args.store.now (frame_after c.args.frame.now c.args.done) c.requires.may c.peek_read.result.now c.peek_read.ensures c.number_at-count.result c.number_at-count.ensures c.in-Some.subscript.now found) ∙ c.in_default.ensures.text,
        subscript_there c.args.by c.args.to c.args.container c.args.index c.args.skip c.args.store.now (frame_after c.args.frame.now c.args.done) c.requires.may c.peek_read.result.now c.peek_read.ensures c.number_at-count.result c.number_at-count.ensures c.in-Some.subscript.now found,
      );
      store = unchanged _;
      frame = refl;
      is_back = refl;
    }

pub set_result-requires-clause-fits : goal.set_result-requires-clause-fits
set_result-requires-clause-fits c =
    let key : to_z w64 (of_z w64 c.number_at-count.result) ≡ c.number_at-count.result = grind (arith, to_z-of_z) in
    let found = ap (λ k. subscript_after k (subscripts_at c.args.store.now.store c.peek_read.result.now.id)) (sym key) ∙ sym c.in-Some.ensures.found ∙ ap Some (sym c.in-Ok.ensures.first) in
    ap (λ (n : FrameView). option_map scalar_of (slice_get n.position.values c.args.to)) c.complete_job-draft.ensures.taken
    ∙ subscript_fits c.args.by c.args.to c.args.container c.args.index c.args.skip c.args.store.now (frame_after c.args.frame.now c.args.done) c.requires.may c.peek_read.result.now c.peek_read.ensures c.number_at-count.result c.number_at-count.ensures c.in-Ok.copies.0 found

pub returns-in-Ok : goal.returns-in-Ok
returns-in-Ok c =
    let key : to_z w64 (of_z w64 c.number_at-count.result) ≡ c.number_at-count.result = grind (arith, to_z-of_z) in
    let found = ap (λ k. subscript_after k (subscripts_at c.args.store.now.store c.peek_read.result.now.id)) (sym key) ∙ sym c.in-Some.ensures.found ∙ ap Some (sym c.in-Ok.ensures.first) in
    let is = c.set_result.ensures.given ∙ ap (λ (n : FrameView). record n { position = at_next_place (with_value n.position c.args.to c.in-Ok.copies.0); spent = n.spent + 1 }) c.complete_job-draft.ensures.taken in
    record {
      is_done = subscript_some c.args.by c.args.to c.args.container c.args.index c.args.skip c.args.store.now (frame_after c.args.frame.now c.args.done) c.requires.may c.peek_read.result.now c.peek_read.ensures c.number_at-count.result c.number_at-count.ensures c.in-Ok.copies.0 found c.set_result.new.frame is;
      is_draft = c.set_result.ensures.drafted;
    }

pub returns-in-None : goal.returns-in-None
returns-in-None c =
    let key : to_z w64 (of_z w64 c.number_at-count.result) ≡ c.number_at-count.result = grind (arith, to_z-of_z) in
    let none = ap (λ k. subscript_after k (subscripts_at c.args.store.now.store c.peek_read.result.now.id)) (sym key) ∙ sym c.in-None.ensures.found in
    let is = c.skip.ensures ∙ ap (λ (n : FrameView). record n { position = at_goal n.position c.args.skip; spent = n.spent + 1 }) c.complete_job-draft-in-None.ensures.taken in
    record {
      is_done = subscript_none c.args.by c.args.to c.args.container c.args.index c.args.skip c.args.store.now (frame_after c.args.frame.now c.args.done) c.requires.may c.peek_read.result.now c.peek_read.ensures c.number_at-count.result c.number_at-count.ensures none c.skip.new.self is;
      is_draft = c.complete_job-draft-in-None.ensures.draft ∙ ap draft_of c.complete_job-draft-in-None.ensures.taken ∙ sym (ap draft_of is);
    }
