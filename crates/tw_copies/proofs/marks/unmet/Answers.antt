use Rattle.tw_copies.proofs.Names.{CodeMet, Instr, List, arith, cases_eq, inl, inr, refl, slice_get_read, slice_get_within, subst, ◌≡◌}
use Rattle.tw_copies.proofs.Marked.{met_here}
use Rattle.tw_copies.proofs.marks.unmet.Goals as goal

pub loop-number-preserved : goal.loop-number-preserved
loop-number-preserved c = λ n place i low at.
    let program = c.args.program.now in
    let marks = c.args.marks.now in
    let number = c.loop-number.number in
    let p = c.index-program-number.result in
    let here = slice_get_read program _ number p refl c.loop-number-test.true c.index-program-number.is in
    let code : c.as_slice-code.result.now ≡ p.code = c.as_slice-code.ensures in
    elim (cases_eq n number) [
      | inl same ↦ met_here program marks number p here (subst (λ (ops : List Instr). CodeMet program marks number ops) code c.in_default.ensures) n place i same at
      | inr other ↦ c.loop-number.invariant n place i (omega (arith, low, other)) at
    ]

pub returns : goal.returns
returns c = λ n place i at. c.loop-number.invariant n place i (omega (arith, slice_get_within c.args.program.now n at.0 at.1, c.loop-number-test.false)) at
