use Rattle.tw_bounds.proofs.Names.{None, Option, ap, arith, false, get_or_from_slice_get, is_some, refl, slice_get_read, slice_get_within, sym, true, ℕ, ◌∙◌, ◌≡◌}
use Rattle.tw_bounds.proofs.Partial.{fixpoint_more, none_there}
use Rattle.tw_bounds.proofs.solving.next_bound.Goals as goal
use Rattle.tw_bounds.proofs.solving.next_bound.Goals.{then-is_none+in_ok-bound+in_default, else-is_none}

pub loop-number-preserved : goal.loop-number-preserved
loop-number-preserved c =
    fixpoint_more c.args.program.now c.args.weights.now c.args.known.now c.loop-number.number c.index-program-number.result
    (slice_get_read c.args.program.now _ c.loop-number.number c.index-program-number.result refl c.loop-number-test.true c.index-program-number.is)
    (λ none. elim c.if-is_none.branch [
      | then-is_none+in_ok-bound+in_default w ↦ (w.in_ok-bound.ensures {u = tt}).unknown w.in_default.is
      | else-is_none w ↦
          let e : false ≡ true = sym (ap (λ (o : Option ℕ). is_some o) (get_or_from_slice_get c.args.known.now c.loop-number.number None None none)) ∙ w.if-is_none.ensures {u = tt} in
          cc
    ]) c.loop-number.invariant

pub returns-clause-none : goal.returns-clause-none
returns-clause-none c = λ _ k p here. c.loop-number.invariant k p (omega (arith, slice_get_within c.args.program.now k p here, c.loop-number-test.false)) here

pub returns-in-Some-clause-found : goal.returns-in-Some-clause-found
returns-in-Some-clause-found c = λ exact is. record {
  procedure = c.index-program-number.result;
  here = slice_get_read c.args.program.now _ c.loop-number.number c.index-program-number.result refl c.loop-number-test.true c.index-program-number.is;
  unknown = none_there c.args.known.now c.loop-number.number _ (omega (arith, c.loop-number-test.true, c.requires.long)) c.is_none.result c.is_none.ensures c.if-is_none.true;
  is = let found = (c.in_ok-bound.ensures {u = tt}).found exact is in rw c.in-Some.is at found;
}
