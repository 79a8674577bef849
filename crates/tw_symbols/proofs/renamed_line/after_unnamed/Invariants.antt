use Rattle.std.specs.Prelude.{IfSome}
use Rattle.tw_symbols.proofs.TextNames.{List, filter, is_unnamed, length, texts, ℕ, ◌++◌, ◌≡◌}
use Rattle.tw_symbols.proofs.renamed_line.after_unnamed.Given as goal

abbrev pub invariant-loop-left : goal.invariant-loop-left
invariant-loop-left l = record {
  so_far : IfSome l.more (λ more. (tail : List (List ℕ)) → texts more.now ≡ filter is_unnamed (texts l.left) ++ tail → texts l.plains ≡ filter is_unnamed (texts l.words) ++ tail);
}

abbrev pub decreases-loop-left : goal.decreases-loop-left
decreases-loop-left l = length l.left
