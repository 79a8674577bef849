use Rattle.std.proofs.Common.{length}
use Rattle.std.specs.Str.Lines.{lines}
use Rattle.tw_symbols.specs.Seen.{seen_names, seen_procedures}
use Rattle.tw_symbols.proofs.Loops.{lines_in}
use Rattle.tw_symbols.proofs.RenamedLines.{HasCome, IsWithin}
use Rattle.tw_symbols.proofs.renamed.line_apart.Given as goal

abbrev pub invariant-loop-index : goal.invariant-loop-index
invariant-loop-index l = record {
  next : (goal.iterator-loop-index).can_next l.index-iterator;
  finite : (goal.iterator-loop-index).is_finite l.index-iterator;
  within : IsWithin (length l.yielded) l.up_to;
  so_far : HasCome (seen_procedures l.procedures) (lines l.text) (lines_in l.yielded) (seen_names l.names) l.count l.written;
}
