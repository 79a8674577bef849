use Rattle.tw_machine.proofs.Names.{are_short, drop, members_by, true, with_members, ◌+◌, ◌≡◌}
use Rattle.tw_machine.proofs.opened.add_values.Given as goal

abbrev pub invariant-loop-value : goal.invariant-loop-value
invariant-loop-value g l = record {
  rest : with_members l.fn.store (members_by g.K.AsValue.value g.V.AsValue.value l.members) ≡ with_members l.store (members_by g.K.AsValue.value g.V.AsValue.value (drop l.value-index l.members));
  short : are_short (members_by g.K.AsValue.value g.V.AsValue.value (drop l.value-index l.members)) ≡ true;
  next : l.store.next ≡ l.fn.store.next + l.value-index;
}
