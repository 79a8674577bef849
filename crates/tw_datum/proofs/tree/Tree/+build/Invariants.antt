use Rattle.tw_datum.proofs.tree.Tree.+build.Given as goal

abbrev pub decreases-build : goal.decreases-build
decreases-build g l = l.count
