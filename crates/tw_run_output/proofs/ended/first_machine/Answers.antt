use Rattle.std.proofs.Common.{◌∙◌, List, ap}
use Rattle.tw_types.specs.declared.input.Input.{Input}
use Rattle.tw_code.specs.machine.Opening.{opening}
use Rattle.tw_run_output.specs.Run.{begins}
use Rattle.tw_run_output.proofs.ended.first_machine.Goals as goal

pub returns-in-Ok-clause-first : goal.returns-in-Ok-clause-first
returns-in-Ok-clause-first c =
    let program = c.args.program in
    c.in-Ok.ensures.opened ∙ ap (λ (given : List Input). record (begins program.version program.procedures c.args.order.now) { state = opening program.procedures given }) c.as_slice.ensures
