use Rattle.tw_copies.proofs.Names.{InsertsInto, Instr, Some, arith, cases_eq, cases_lt, inl, inr, refl, same_Some, slice_get_read, slice_get_within, subst, sym, ℕ, ◌∙◌, ◌≡◌}
use Rattle.std.specs.Prelude.{slice_get}
use Rattle.tw_copies.proofs.insertions.insertion_in.Goals as goal

pub returns-in-Some : goal.returns-in-Some
returns-in-Some c = (
  record {
    i = c.index-code-place.result;
    at = slice_get_read c.args.code.now _ c.loop-place.place c.index-code-place.result refl c.loop-place-test.true c.index-code-place.is;
    container = c.in-Some._register;
    inserts = c.in-Some.ensures.0;
    marked = c.in-Some.ensures.1;
  },
  λ place m. elim (cases_lt place c.loop-place.place) [
    | inl less ↦ absurd (c.loop-place.invariant place less m)
    | inr more ↦ more
  ],
)

pub loop-place-preserved : goal.loop-place-preserved
loop-place-preserved c = λ place low m. elim (cases_eq place c.loop-place.place) [
  | inl same ↦
      let there = slice_get_read c.args.code.now _ c.loop-place.place c.index-code-place.result refl c.loop-place-test.true c.index-code-place.is in
      let own : m.i ≡ c.index-code-place.result = same_Some m.i _ (sym m.at ∙ subst (λ (n : ℕ). slice_get c.args.code.now n ≡ Some c.index-code-place.result) (sym same) there) in
      c.in_default.ensures m.container (subst (λ (i : Instr). InsertsInto i m.container) own m.inserts) m.marked
  | inr other ↦ c.loop-place.invariant place (omega (arith, low, other)) m
]

pub returns : goal.returns
returns c = λ place m. c.loop-place.invariant place (omega (arith, slice_get_within c.args.code.now place m.i m.at, c.loop-place-test.false)) m
