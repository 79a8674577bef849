use Rattle.std.proofs.Common.{length, to_z, of_z, sym, ap, subst, arith}
use Rattle.std.specs.Int.{w64}
use Rattle.std.specs.Prelude.{FitsSigned}
use Rattle.std.proofs.lemmas.Int.{to_z-of_z}
use Rattle.tw_code.proofs.Computing.{shown_short}
use Rattle.tw_code.proofs.compute.shown.Goals as goal

pub unreachable-requires : goal.unreachable-requires
unreachable-requires c =
    let short = shown_short (to_z w64 (of_z w64 c.args.number)) (subst (FitsSigned w64) (sym (to_z-of_z w64 c.args.number c.ranges.number)) c.ranges.number) in
    let ok = c.in_default.ensures.short.1 (omega (arith, short, ap length c.in_ok-format.ensures.ok)) in
    cc
