use Rattle.std.proofs.Common.{◌≡◌, T, take}
use Rattle.std.specs.FinMap.{is_sorted}
use Rattle.tw_types.specs.Given.{members_by}
use Rattle.tw_types.specs.ValueOrder.{value_cmp}
use Rattle.tw_datum.proofs.entering.rising_copies.Given as goal

abbrev pub invariant-loop-member : goal.invariant-loop-member
invariant-loop-member g l = record {
  copied : l.run.items ≡ members_by g.K.AsValue.value g.V.AsValue.value (take l.member-index l.members);
  rising : T (is_sorted value_cmp l.run.items);
}
