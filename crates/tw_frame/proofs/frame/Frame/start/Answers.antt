use Rattle.tw_frame.proofs.Names.{Context, DraftView, FrameView, Ok, ap, bare_file, bare_frame, frame_of, position_of, subst, sym, ◌∙◌, ◌≡◌}
use Rattle.tw_frame.proofs.Frames.{frame_made}
use Rattle.tw_frame.proofs.frame.Frame.start.Goals as goal

pub returns-clause-machine : goal.returns-clause-machine
returns-clause-machine c task p same are here starts =
    subst (λ (f : FrameView). frame_of c.args.verified.now.program c.args.task.no task ≡ Ok (bare_frame f)) (sym c.of-frame.ensures)
    (subst (λ (x : Context). frame_of c.args.verified.now.program c.args.task.no task ≡ Ok (record { task = c.args.task.no; procedure = c.args.task.procedure; position = position_of x; rights = bare_file c.fill.result.value; spent = 0 })) (sym c.set_position.ensures)
    (frame_made c.args.verified.now.program c.args.task.no c.args.task.procedure task p c.args.start.values c.deref_mut.result.now.registers.values c.args.task.args c.fill.result.value c.new.result same are here starts
    (ap (λ (x : Context). x.registers.values) c.deref_mut.ensures.value ∙ ap (λ (d : DraftView). d.values) c.start.view_is) c.fill.ensures c.new.ensures))
