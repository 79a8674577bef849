use Rattle.tw_pool_state.proofs.PartNames.{FrameView, IsNow, TakesValue, Value, ap, arith, at_next_place, draft_of, entry_at, frame_after, get, named, of_z, refl, subst, sum_with, sym, to_z, to_z-of_z, value_put, w64, ◌+◌, ◌∙◌, ◌≡◌}
use Rattle.tw_pool_state.proofs.Maps.{add_done, add_here, add_inside, add_int, add_right, add_takes_it}
use Rattle.tw_pool_state.proofs.data.maps.exec_add_value.Goals as goal

pub number_at-number-requires : goal.number_at-number-requires
number_at-number-requires c = add_int c.args.map c.args.subscript c.args.from c.args.store.now (frame_after c.args.frame.now c.args.done) c.requires.may

pub look-at-requires : goal.look-at-requires
look-at-requires c = add_inside c.args.map c.args.subscript c.args.from c.args.store.now (frame_after c.args.frame.now c.args.done) c.requires.may

pub peek_write-right-requires : goal.peek_write-right-requires
peek_write-right-requires c = add_right c.args.map c.args.subscript c.args.from c.args.store.now (frame_after c.args.frame.now c.args.done) c.requires.may

pub written_entry-requires : goal.written_entry-requires
written_entry-requires c = add_here c.args.map c.args.subscript c.args.from c.args.store.now (frame_after c.args.frame.now c.args.done) c.requires.may c.peek_write-right.result.now c.peek_write-right.ensures (named c.look-at.result) c.look-at.ensures.is

pub put-requires-clause-here : goal.put-requires-clause-here
put-requires-clause-here c = add_here c.args.map c.args.subscript c.args.from c.args.store.now (frame_after c.args.frame.now c.args.done) c.requires.may c.peek_write-right.result.now c.peek_write-right.ensures (named c.look-at.result) c.look-at.ensures.is

pub put-requires-clause-takes : goal.put-requires-clause-takes
put-requires-clause-takes c =
    let key : to_z w64 (of_z w64 c.number_at-number.result) ≡ c.number_at-number.result = grind (arith, to_z-of_z) in
    let is = c.sum_with-sum.ensures ∙ ap (λ o. sum_with o (to_z w64 (of_z w64 c.number_at-number.result))) c.written_entry.ensures ∙ ap (sum_with (entry_at c.args.store.now.store c.peek_write-right.result.now.id (named c.look-at.result))) key in
    subst (λ (v : Value). TakesValue (named c.look-at.result) v (get c.args.store.now.store.live c.peek_write-right.result.now.id)) (sym is)
    (add_takes_it c.args.map c.args.subscript c.args.from c.args.store.now (frame_after c.args.frame.now c.args.done) c.requires.may c.peek_write-right.result.now c.peek_write-right.ensures (named c.look-at.result) c.look-at.ensures.is c.number_at-number.result c.number_at-number.ensures)

pub returns-in-Ok : goal.returns-in-Ok
returns-in-Ok c =
    let key : to_z w64 (of_z w64 c.number_at-number.result) ≡ c.number_at-number.result = grind (arith, to_z-of_z) in
    let sum_is = c.sum_with-sum.ensures ∙ ap (λ o. sum_with o (to_z w64 (of_z w64 c.number_at-number.result))) c.written_entry.ensures ∙ ap (sum_with (entry_at c.args.store.now.store c.peek_write-right.result.now.id (named c.look-at.result))) key in
    let now = subst (λ (v : Value). IsNow (value_put c.args.store.now.store c.peek_write-right.result.now.id (named c.look-at.result) v) c.args.store.now c.put.new.self) sum_is c.in-Ok.ensures.put in
    let is = c.to_next_place.ensures ∙ ap (λ (n : FrameView). record n { position = at_next_place n.position; spent = n.spent + 1 }) c.complete_job-draft.ensures.taken in
    record {
      is_done = add_done c.args.map c.args.subscript c.args.from c.args.store.now (frame_after c.args.frame.now c.args.done) c.requires.may c.peek_write-right.result.now c.peek_write-right.ensures (named c.look-at.result) c.look-at.ensures.is c.number_at-number.result c.number_at-number.ensures c.put.new.self now c.to_next_place.new.self is;
      is_draft = c.complete_job-draft.ensures.draft ∙ ap draft_of c.complete_job-draft.ensures.taken ∙ sym (ap draft_of is);
    }

pub returns-in-Err : goal.returns-in-Err
returns-in-Err c = record { memory = tt; store = c.in-Err.ensures.refused; frame = refl; is_back = refl }
