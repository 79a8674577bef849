use Rattle.std.proofs.Common.{◌≡◌, map}
use Rattle.tw_source.proofs.text_lines.lines_of.Given as goal

abbrev pub invariant-loop-line : goal.invariant-loop-line
invariant-loop-line l = map (λ line. line.now) l.all.items ≡ map (λ line. line.now) l.yielded
