use Rattle.std.proofs.Common.{◌≡◌, ◌≤◌, length, drop}
use Rattle.std.specs.Prelude.{vec_capacity}
use Rattle.std.specs.Vec.Iter.{into_iter_items}
use Rattle.tw_rights.specs.Bundled.{bundled}
use Rattle.tw_rights.proofs.Bundling.{IsUnderWay}
use Rattle.tw_rights.proofs.file.RightFile.bundle.Given as goal

abbrev pub invariant-loop-index : goal.invariant-loop-index
invariant-loop-index l = IsUnderWay (bundled l.fn.self l.params l.args l.fn.vals.items) l.self (drop l.index l.params) (drop l.index l.args) (into_iter_items l.vals) l.bundle.items
    × (length l.bundle.items ≡ l.index) × (length l.params ≤ vec_capacity l.bundle)
