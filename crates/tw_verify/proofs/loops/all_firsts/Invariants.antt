use Rattle.tw_verify.specs.Loops.{AreFirsts}
use Rattle.tw_verify.proofs.loops.all_firsts.Given as goal

-- the loops that begin before this place are known by their ENDs
abbrev pub invariant-loop-place : goal.invariant-loop-place
invariant-loop-place l = AreFirsts l.code l.firsts.items l.place
