use Rattle.std.proofs.Common.{subst, sym}
use Rattle.std.proofs.lemmas.Bool.{and_parts}
use Rattle.tw_types.specs.Value.{IsProper, is_short}
use Rattle.tw_datum.proofs.entering.entry_copy.Goals as goal

pub try_to_value-requires : goal.try_to_value-requires
try_to_value-requires g c =
    subst IsProper (sym c.as_value.ensures.is) (c.as_value.ensures.proper (and_parts (is_short (g.K.AsValue.value c.args.entry.now.0)) (is_short (g.V.AsValue.value c.args.entry.now.1)) c.requires).0)

pub try_to_value-requires-2 : goal.try_to_value-requires-2
try_to_value-requires-2 g c =
    subst IsProper (sym c.as_value-2.ensures.is) (c.as_value-2.ensures.proper (and_parts (is_short (g.K.AsValue.value c.args.entry.now.0)) (is_short (g.V.AsValue.value c.args.entry.now.1)) c.requires).1)
