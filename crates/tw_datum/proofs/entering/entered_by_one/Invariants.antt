use Rattle.std.proofs.Common.{◌≡◌, drop}
use Rattle.tw_types.specs.Given.{entered, members_by}
use Rattle.tw_datum.proofs.entering.entered_by_one.Given as goal

-- those from this one on
abbrev pub invariant-loop-index : goal.invariant-loop-index
invariant-loop-index g l = l.values ≡ entered (members_by g.K.AsValue.value g.V.AsValue.value (drop l.index l.members))
