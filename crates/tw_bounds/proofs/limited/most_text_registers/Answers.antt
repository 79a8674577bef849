use Rattle.tw_bounds.proofs.Names.{IsProcedure, List, Procedure, Scalar, Some, [], all_found, ap, arith, length, max, most_text_registers, refl, same_Some, slice_get, slice_get_read, suc, take, text_registers, zero, ℕ, ◌+◌, ◌∙◌, ◌∷◌, ◌≡◌}
use Rattle.tw_bounds.proofs.limited.most_text_registers.Goals as goal

-- with one procedure more
most_more : (program : List Procedure) (k : ℕ) (p : Procedure) → slice_get program k ≡ Some p → most_text_registers (take (suc k) program) ≡ max (most_text_registers (take k program)) (text_registers p.registers)
most_more [] k p here = cc
most_more (q ∷ program) zero p here = let same = ap (λ (r : Procedure). text_registers r.registers) (same_Some q p here) in omega (arith, same)
most_more (q ∷ program) (suc k) p here = let rest = most_more program k p here in omega (arith, rest)

pub loop-procedure-preserved : goal.loop-procedure-preserved
loop-procedure-preserved c =
    let k = c.loop-procedure.procedure-index in
    let here = slice_get_read c.args.program.now _ k c.procedure-item.result refl c.loop-procedure-test.true c.procedure-item.is in
    let limits = all_found IsProcedure c.args.program.now k c.procedure-item.result c.requires.1 here in
    let own = c.text_registers.ensures.is ∙ ap text_registers c.as_slice.ensures in
    let long = ap (λ (types : List Scalar). length types) c.as_slice.ensures in
    let next : suc k ≡ k + 1 = omega arith in
    let more = ap (λ (n : ℕ). most_text_registers (take n c.args.program.now)) next in (
      omega (arith, c.larger-most.ensures, c.loop-procedure.invariant.0, own, more, most_more c.args.program.now k c.procedure-item.result here),
      omega (arith, c.larger-most.ensures, c.loop-procedure.invariant.1, c.text_registers.ensures.few, long, limits.registers.1),
    )
