use Rattle.tw_pool_state.proofs.PartNames.{FrameView, Right, Value, ap, at_next_place, draft_of, frame_after, inl, inr, job_of, refl, sym, unchanged, ◌+◌, ◌∙◌}
use Rattle.tw_rights.specs.declared.held.Held.TheVariants as held
use Rattle.tw_pool_state.proofs.Registers.{id_at, more_than, put_back}
use Rattle.tw_pool_state.proofs.Stores.{store_allowed, store_declared, store_here, store_right, stored_done}
use Rattle.tw_pool_state.proofs.data.scalars.exec_store.Goals as goal

pub value-requires : goal.value-requires
value-requires c = store_declared c.args.datum c.args.from c.args.store.now (frame_after c.args.frame.now c.args.done) c.requires.may

pub returns-in_default : goal.returns-in_default
returns-in_default c = record { memory = inl c.in_default.ensures.text; store = unchanged _; frame = refl; is_back = refl }

pub take_write-right-requires : goal.take_write-right-requires
take_write-right-requires c = store_right c.args.datum c.args.from c.args.store.now (frame_after c.args.frame.now c.args.done) c.requires.may

pub store-requires-clause-here : goal.store-requires-clause-here
store-requires-clause-here c = store_here c.args.datum c.args.from c.args.store.now (frame_after c.args.frame.now c.args.done) c.requires.may c.take_write-right.result c.take_write-right.ensures.taken

pub store-requires-clause-allowed : goal.store-requires-clause-allowed
store-requires-clause-allowed c = store_allowed c.args.datum c.args.from c.args.store.now (frame_after c.args.frame.now c.args.done) c.requires.may c.take_write-right.result c.take_write-right.ensures.taken c.in-Ok.value c.in-Ok.ensures.copy

pub complete_job-draft-requires-clause-own : goal.complete_job-draft-requires-clause-own
complete_job-draft-requires-clause-own c = c.requires.own ∙ ap job_of (sym c.take_write-right.ensures.rest)

pub returns-in-Ok-store : goal.returns-in-Ok-store
returns-in-Ok-store c =
    let came = c.complete_job-draft.ensures.taken ∙ ap (λ (n : FrameView). frame_after n c.args.done) c.take_write-right.ensures.rest in
    let is = c.to_next_place.ensures ∙ ap (λ (n : FrameView). record n { position = at_next_place n.position; spent = n.spent + 1 }) came in
    record {
      is_done = stored_done c.args.datum c.args.from c.args.store.now (frame_after c.args.frame.now c.args.done) c.requires.may c.take_write-right.result c.take_write-right.ensures.taken c.in-Ok.value c.in-Ok.ensures.copy c.store.new.self c.in-Ok-store.ensures.stored c.to_next_place.new.self is;
      is_draft = c.complete_job-draft.ensures.draft ∙ ap draft_of came ∙ sym (ap draft_of is);
    }

pub returns-in-Err : goal.returns-in-Err
returns-in-Err c = record {
  memory = inr (c.take_write-right.result.id, id_at c.args.frame.now.held c.args.datum (held.Write c.take_write-right.result) c.take_write-right.ensures.taken, more_than _ _ c.in-Err.ensures.reserved);
  store = c.in-Err.ensures.refused;
  frame = put_back c.args.frame.now c.take_write-right.new.self c.fill.new.self c.args.datum (held.Write c.take_write-right.result) (held.Write c.in-Err.back.0) c.take_write-right.ensures.taken c.take_write-right.ensures.rest
      (ap (λ (b : Right × Value). held.Write b.0) c.in-Err.ensures.back) c.fill.ensures;
  is_back = refl;
}
