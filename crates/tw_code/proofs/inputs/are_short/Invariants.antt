use Rattle.std.proofs.Common.{◌≡◌, ◌&&◌, drop}
use Rattle.std.specs.List.{list_all}
use Rattle.tw_types.specs.Given.{members_by}
use Rattle.tw_types.specs.Value.{is_short}
use Rattle.tw_code.proofs.inputs.are_short.Given as goal

abbrev pub invariant-loop-subscript : goal.invariant-loop-subscript
invariant-loop-subscript g l =
    list_all (λ e. is_short e.0 && is_short e.1) (members_by g.K.AsValue.value g.V.AsValue.value l.members)
    ≡ list_all (λ e. is_short e.0 && is_short e.1) (members_by g.K.AsValue.value g.V.AsValue.value (drop l.subscript-index l.members))
