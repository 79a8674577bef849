use Rattle.std.proofs.Common.{List, sym, subst}
use Rattle.tw_code.specs.declared.procedure.Procedure.{Procedure}
use Rattle.tw_code.specs.format.Program.{IsProgram}
use Rattle.tw_verify.specs.Typed.{typings_of}
use Rattle.tw_frame.specs.Jobs.{FrameView, MayBeAt}
use Rattle.tw_frame.proofs.Beginning.{may_begin, may_start_alone}
use Rattle.tw_fuzz.proofs.jobs.stretch_of.Goals as goal

pub start-requires : goal.start-requires
start-requires c = may_start_alone c.args.verified.now.program c.program.ensures.accepted c.new-2.result c.new-2.ensures

pub lend-job-requires-clause-fits_place : goal.lend-job-requires-clause-fits_place
lend-job-requires-clause-fits_place c =
    subst (λ (f : FrameView). MayBeAt f.program.program f.procedure f.position) (sym c.start-frame.ensures.is)
    (may_begin c.args.verified.now.program (typings_of c.args.verified.now) (subst (λ (program : List Procedure). IsProgram program) c.program.ensures.is c.procedures-procedures.ensures.within) c.program.ensures.right 0
    c.new-2.result c.in-Ok-start.start.values c.in-Ok-start.ensures.started)
