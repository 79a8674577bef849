use Rattle.tw_store.proofs.Names.{Contains-cons, Contains-cons_cases, Contains-entries, ap, arith, inl, inr, refl, sym, zero, ◌∙◌}
use Rattle.tw_store.proofs.slot.place_of.Goals as goal

pub loop-place-init : goal.loop-place-init
loop-place-init c =
    let left = c.into_iter-place-iterator.ensures.into_iter_gives ∙ c.iter-place-items.ensures.rest in (
      tt,
      tt,
      λ p e there is. rw left ((Contains-entries c.args.slab.now p e).1 there),
      λ p e found. (Contains-entries c.args.slab.now p e).0 (rw left at found),
    )

pub loop-place-preserved : goal.loop-place-preserved
loop-place-preserved c =
    let at = c.in-Some.ensures.steps in (
      tt,
      tt,
      λ p e there is. elim (Contains-cons_cases _ _ _ (rw at at (c.loop-place.invariant.2 p e there is))) [
        | inl same ↦ absurd (c.if-number.false (c.number.ensures ∙ ap (λ x. x.1.id) same ∙ is ∙ sym c.number-number.ensures))
        | inr rest ↦ rest
      ],
      λ p e found. c.loop-place.invariant.3 p e (rw at (Contains-cons _ _ _ found)),
    )

pub returns-then-number-clause-found : goal.returns-then-number-clause-found
returns-then-number-clause-found c = record {
  slot = c.in-Some.slot.now;
  there = c.loop-place.invariant.3 c.in-Some.place c.in-Some.slot.now (rw c.in-Some.ensures.steps (zero, omega arith, refl));
  id_is = sym c.number.ensures ∙ c.if-number.true ∙ c.number-number.ensures;
}
