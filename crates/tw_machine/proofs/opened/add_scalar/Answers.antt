use Rattle.tw_machine.proofs.Names.{IsProper, is_scalar, no_entries, no_kinds, rules, subst, sym, true, ◌≡◌}
use Rattle.tw_datum.proofs.Members.{scalar_only}
use Rattle.tw_machine.proofs.opened.add_scalar.Goals as goal

pub try_to_value-requires : goal.try_to_value-requires
try_to_value-requires g c = subst IsProper (sym c.as_value.ensures.is) (c.as_value.ensures.proper c.requires.short)

pub add_closed-requires-clause-fits : goal.add_closed-requires-clause-fits
add_closed-requires-clause-fits g c =
    let plain : is_scalar c.from-ty.result ≡ true = search rules in
    let only = scalar_only c.from-ty.result plain in
    ((sym only.0, sym only.1), (no_kinds c.from-ty.result, no_entries c.from-ty.result))
