use Rattle.tw_pool_state.proofs.PartNames.{FrameView, None, Some, ap, at_next_place, draft_of, frame_after, refl, slice_index_or, slice_set, sym, ◌+◌, ◌∙◌}
use Rattle.tw_rights.specs.declared.held.Held.TheVariants as held
use Rattle.tw_pool_state.proofs.News.{made_done, read_empty, write_empty}
use Rattle.tw_pool_state.proofs.Registers.{nothing_left}
use Rattle.tw_pool_state.proofs.data.rights.exec_new.Goals as goal

pub returns-in_default : goal.returns-in_default
returns-in_default c = record { memory = nothing_left _ c.in_default.ensures.reserved; store = c.in_default.ensures.refused; frame = refl; is_back = refl }

pub fill-requires-clause-empty : goal.fill-requires-clause-empty
fill-requires-clause-empty c = ap (λ (n : FrameView). slice_index_or n.held c.args.write None) c.complete_job-draft.ensures.taken ∙ write_empty c.args.write c.args.read c.args.ty c.args.store.now (frame_after c.args.frame.now c.args.done) c.requires.may

pub fill-requires-2-clause-empty : goal.fill-requires-2-clause-empty
fill-requires-2-clause-empty c =
    ap (λ (n : FrameView). slice_index_or n.held c.args.read None) (c.fill.ensures ∙ ap (λ (n : FrameView). record n { held = slice_set n.held c.args.write (Some (held.Write c.in-Ok.rights.0)) }) c.complete_job-draft.ensures.taken)
    ∙ read_empty c.args.write c.args.read c.args.ty c.args.store.now (frame_after c.args.frame.now c.args.done) c.requires.may (Some (held.Write c.in-Ok.rights.0))

pub returns : goal.returns
returns c =
    let e = c.in-Ok.ensures in
    let is = c.to_next_place.ensures ∙ ap (λ (n : FrameView). record n { position = at_next_place n.position; spent = n.spent + 1 })
    (c.fill-2.ensures ∙ ap (λ (n : FrameView). record n { held = slice_set n.held c.args.read (Some (held.Read c.in-Ok.rights.1)) })
    (c.fill.ensures ∙ ap (λ (n : FrameView). record n { held = slice_set n.held c.args.write (Some (held.Write c.in-Ok.rights.0)) }) c.complete_job-draft.ensures.taken)) in
    record {
      is_done = made_done c.args.write c.args.read c.args.ty c.args.store.now (frame_after c.args.frame.now c.args.done) c.requires.may c.create.new.self c.in-Ok.rights.0 c.in-Ok.rights.1 e.write e.read e.made e.places e.here e.quiet c.to_next_place.new.self is;
      is_draft = c.complete_job-draft.ensures.draft ∙ ap draft_of c.complete_job-draft.ensures.taken ∙ sym (ap draft_of is);
    }
