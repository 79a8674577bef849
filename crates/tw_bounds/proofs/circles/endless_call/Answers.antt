use Rattle.tw_bounds.proofs.Names.{Instr, IsCall, Some, arith, cases_eq, inl, inr, refl, same_Some, slice_get, slice_get_read, slice_get_within, subst, sym, ℕ, ◌∙◌, ◌≡◌}
use Rattle.tw_bounds.proofs.circles.endless_call.Goals as goal

pub loop-place-preserved : goal.loop-place-preserved
loop-place-preserved c = λ place q low calls. elim (cases_eq place c.loop-place.place) [
  | inl same ↦
      let there = slice_get_read c.args.code.now _ c.loop-place.place c.index-code-place.result refl c.loop-place-test.true c.index-code-place.is in
      let own : calls.0 ≡ c.index-code-place.result = same_Some calls.0 _ (sym calls.1 ∙ subst (λ (n : ℕ). slice_get c.args.code.now n ≡ Some c.index-code-place.result) (sym same) there) in
      c.in_default.ensures q (subst (λ (i : Instr). IsCall i q) own calls.2) calls.3
  | inr other ↦ c.loop-place.invariant place q (omega (arith, low, other)) calls
]

pub returns : goal.returns
returns c = λ place q calls. c.loop-place.invariant place q (omega (arith, slice_get_within c.args.code.now place calls.0 calls.1, c.loop-place-test.false)) calls
