use Rattle.tw_copies.proofs.Names.{InsertsMarked, Instr, List, arith, cases_eq, cases_lt, inl, inr, refl, slice_get_read, slice_get_within, subst, sym, ◌≡◌}
use Rattle.tw_copies.proofs.Marked.{insertion_here}
use Rattle.tw_copies.proofs.insertions.first_insertion.Goals as goal

pub returns-in-Some : goal.returns-in-Some
returns-in-Some c =
    let program = c.args.program.now in
    let marks = c.args.marks.now in
    let number = c.loop-procedure.procedure in
    let p = c.index-program-procedure.result in
    let here = slice_get_read program _ number p refl c.loop-procedure-test.true c.index-program-procedure.is in
    let code : c.as_slice.result.now ≡ p.code = c.as_slice.ensures in
    record {
      is = record { p = p; here = here; inserts = subst (λ (ops : List Instr). InsertsMarked marks number ops c.in-Some.place) code c.in-Some.ensures.0 };
      first = λ n q m. elim (cases_lt n number) [
        | inl less ↦ absurd (c.loop-procedure.invariant n q less m)
        | inr more ↦ elim (cases_eq n number) [
          | inl same ↦ inr (sym same, c.in-Some.ensures.1 q (subst (λ (ops : List Instr). InsertsMarked marks number ops q) (sym code) (insertion_here program marks number p here n q same m)))
          | inr other ↦ inl (omega (arith, more, other))
        ]
      ];
    }

pub loop-procedure-preserved : goal.loop-procedure-preserved
loop-procedure-preserved c = λ n q low m.
    let program = c.args.program.now in
    let marks = c.args.marks.now in
    let number = c.loop-procedure.procedure in
    let p = c.index-program-procedure.result in
    let here = slice_get_read program _ number p refl c.loop-procedure-test.true c.index-program-procedure.is in
    let code : c.as_slice.result.now ≡ p.code = c.as_slice.ensures in
    elim (cases_eq n number) [
      | inl same ↦ c.in_default.ensures q (subst (λ (ops : List Instr). InsertsMarked marks number ops q) (sym code) (insertion_here program marks number p here n q same m))
      | inr other ↦ c.loop-procedure.invariant n q (omega (arith, low, other)) m
    ]

pub returns : goal.returns
returns c = λ n q m. c.loop-procedure.invariant n q (omega (arith, slice_get_within c.args.program.now n m.p m.here, c.loop-procedure-test.false)) m
