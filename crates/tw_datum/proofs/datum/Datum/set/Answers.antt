use Rattle.std.proofs.Common.{rules, ◌≡◌, true, sym}
use Rattle.tw_types.specs.DataType.{is_scalar}
use Rattle.tw_types.proofs.Subscripts.{no_entries, no_kinds}
use Rattle.tw_datum.proofs.Members.{scalar_only}
use Rattle.tw_datum.proofs.datum.Datum.set.Goals as goal

pub invariant_of-self : goal.invariant_of-self
invariant_of-self g c =
    let plain : is_scalar c.self.inside.ty ≡ true = search rules in
    let only = scalar_only c.self.inside.ty plain in
    ((sym only.0, sym only.1), (no_kinds c.self.inside.ty, no_entries c.self.inside.ty))
