use Rattle.tw_copies.specs.Marks.{MetBefore}
use Rattle.tw_copies.proofs.marks.unmet.Given as goal

-- the procedures so far are met
abbrev pub invariant-loop-number : goal.invariant-loop-number
invariant-loop-number l = MetBefore l.program l.marks l.number
