use Rattle.std.proofs.Common.{◌≡◌, Ok, sym, ap, ◌∙◌, arith, to_z-of_z, to_z, of_z, w64}
use Rattle.tw_code.specs.machine.Arguments.{priority_at}
use Rattle.tw_pool_state.proofs.ValueRegisters.{int_is, int_known}
use Rattle.tw_pool_state.proofs.operands.priority_of.Goals as goal

pub number_at-requires : goal.number_at-requires
number_at-requires c = (c.requires.0, int_is c.args.done.now.after c.in-Computed.register c.requires.0 (ap (priority_at c.args.done.now.after) (sym c.in-Computed.is) ∙ c.requires.1))

pub returns-in-Computed : goal.returns-in-Computed
returns-in-Computed c =
    let key : to_z w64 (of_z w64 c.number_at.result) ≡ c.number_at.result = grind (arith, to_z-of_z) in
    ap (priority_at c.args.done.now.after) c.in-Computed.is ∙ int_known c.args.done.now.after c.in-Computed.register c.number_at.result c.number_at.ensures ∙ ap Ok (sym key)
