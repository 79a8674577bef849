use Rattle.tw_program_output.proofs.ReplyNames.{Assembly, IfOk-weaker, IsWritten, RepliesBySource, Reply, inl, reply, ◌≢◌}
use Rattle.tw_source.proofs.Nones.{none_printed}
use Rattle.tw_source.specs.Program.{PrintsNone}
use Rattle.tw_source.specs.declared.program.NoProgram.TheVariants.{NoMemory}
use Rattle.tw_program_output.proofs.assembled.named_reply.Goals as goal

pub returns-in-Ok : goal.returns-in-Ok
returns-in-Ok c = IfOk-weaker _ _ _ (λ (r : Reply) h. inl (c.in-Ok.read.program, c.in-Ok.ensures.spells, h)) c.hex_reply.ensures

pub returns-in-Err : goal.returns-in-Err
returns-in-Err c =
    let why = c.in-Err.why in
    IfOk-weaker _ (λ (r : Reply). (why ≢ NoMemory) × PrintsNone why (reply r.text.items r.close)) (λ (r : Reply). RepliesBySource Assembly c.args.input.now IsWritten (reply r.text.items r.close))
    (λ (r : Reply) h. none_printed Assembly c.args.input.now why IsWritten (reply r.text.items r.close) c.in-Err.ensures.none h) c.parse_error_reply.ensures
