use Rattle.std.proofs.Common.{map}
use Rattle.tw_symbols.proofs.SymbolLines.{AreRead}
use Rattle.tw_symbols.proofs.symbols.Symbols.of.Given as goal

abbrev pub invariant-loop-line : goal.invariant-loop-line
invariant-loop-line l = AreRead (map (λ line. line.now) l.yielded) l.procedures.items
