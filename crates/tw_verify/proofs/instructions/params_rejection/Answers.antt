use Rattle.std.proofs.Common.{Bool, true, ◌&&◌, ap, sym, ◌∙◌, arith, length, length-append, take, ◌∷◌, []}
use Rattle.tw_verify.proofs.VerifierNames.{Scalar, option_map_or, same_scalar, slice_get, value_types, values_fit}
use Rattle.tw_verify.proofs.OneMore.{next_value, next_right, next_fits}
use Rattle.tw_verify.proofs.instructions.params_rejection.Goals as goal
use Rattle.tw_verify.proofs.instructions.params_rejection.Goals.{then-is_val, else-is_val}

pub loop-param-preserved : goal.loop-param-preserved
loop-param-preserved c =
    let ps = c.as_slice-param-items.result.now in
    let i = c.loop-param.param-index in
    let p = c.param-item.result in
    elim c.if-is_val.branch [
      | then-is_val w ↦
          let value = sym c.is_val.ensures ∙ w.if-is_val.true in
          let more = next_value ps i p c.loop-param-test.true c.param-item.is value in
          let fit = next_fits ps i c.loop-param.given p c.as_slice-registers.result.now c.loop-param-test.true c.param-item.is value c.loop-param.invariant.given in
          record { given = omega (arith, ap length more.0, length-append (value_types (take i ps)) (p.ty.scalar ∷ [])); few = omega arith; fits = w.fits-is ∙ ap (λ (b : Bool). b && w.is_open_or_of-fits.result) c.loop-param.invariant.fits ∙ ap (λ (b : Bool). values_fit (value_types (take i ps)) c.as_slice-registers.result.now && b) (w.is_open_or_of-fits.ensures ∙ ap (λ (ty : Scalar). option_map_or (λ declared. same_scalar declared ty) (slice_get c.as_slice-registers.result.now c.loop-param.given) true) w.scalar.ensures) ∙ sym fit }
      | else-is_val w ↦
          let more = next_right ps i p c.loop-param-test.true c.param-item.is (sym c.is_val.ensures ∙ w.if-is_val.false) in
          record { given = omega (arith, ap length more.0); few = omega arith; fits = cc }
    ]
