use Rattle.std.proofs.Common.{◌∙◌, ap, sym, Bool, List, ℕ, Option, slice_get}
use Rattle.tw_verify.proofs.VerifierNames.{Scalar, requires_callee, requires_priority, lowest_of, option_map, rejection_in, rejection_with, verify_error_code}
use Rattle.tw_types.specs.Actor.{is_control}
use Rattle.tw_verify.proofs.Numbers.{rejection_in-append}
use Rattle.tw_verify.proofs.arguments.action_rejection.Goals as goal

pub returns : goal.returns
returns c =
    let p = c.args.procedure.now in
    let action = c.args.action.now in
    let priority = requires_priority p.registers action.priority in
    let callee = requires_callee c.args.waits p.registers (slice_get c.args.procedures.now action.procedure) action.args c.args.typing.now in
    c.beside.ensures
    ∙ ap (λ (b : Bool). rejection_with (14, b) (option_map verify_error_code c.lowest-others.result)) c.is_control.ensures
    ∙ ap (rejection_with (14, is_control p.kind))
    (c.lowest-others.ensures
    ∙ ap (λ (o : Option ℕ). lowest_of o (option_map verify_error_code c.callee_rejection-callee.result)) (c.priority_rejection-priority.ensures ∙ ap (λ (registers : List Scalar). rejection_in (requires_priority registers action.priority)) c.as_slice.ensures)
    ∙ ap (lowest_of (rejection_in priority)) c.callee_rejection-callee.ensures
    ∙ sym (rejection_in-append priority callee))
