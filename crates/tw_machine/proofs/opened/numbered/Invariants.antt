use Rattle.tw_machine.proofs.Names.{drop, members_by, numbered, ◌+◌, ◌≡◌}
use Rattle.tw_machine.proofs.opened.numbered.Given as goal

abbrev pub invariant-loop-index : goal.invariant-loop-index
invariant-loop-index g l = l.numbers ≡ numbered (l.first + l.index) (members_by g.K.AsValue.value g.V.AsValue.value (drop l.index l.members))
