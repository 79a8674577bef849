use Rattle.tw_bounds.proofs.Names.{AreCapped, AreWithin, IfSome, IsFixpoint, IsNext, List, None, Option, Procedure, Some, Weights, ap, arith, length, replicate, slice_get_within, subst, sym, ℕ, ◌∙◌, ◌≡◌}
use Rattle.tw_bounds.proofs.Partial.{IsSolving, none_unknown_left, solving_begun, solving_done, solving_long, solving_more, solving_within, unknown_all, unknown_in, unknown_less}
use Rattle.tw_bounds.proofs.solving.bounds.Goals as goal

-- the next bound, of the exact ones that are known
next_here : {program : List Procedure} {weights : Weights} (known : List (Option ℕ)) (solving : IsSolving program weights known) (given : List (Option ℕ)) → given ≡ known → (k b : ℕ) (o : Option (ℕ × ℕ)) → o ≡ Some (k, b)
    → ((exact : List (Option ℕ)) → AreCapped given exact → IfSome o (λ e. IsNext program weights given exact e.0 e.1)) → IsNext program weights known solving.0 k b
next_here {program = program} {weights = weights} known solving given same k b o is found =
    let h = found solving.0 (same ∙ solving.1) in
    let i = rw is at h in
    subst (λ (xs : List (Option ℕ)). IsNext program weights xs solving.0 k b) same i

pub loop-init : goal.loop-init
loop-init c =
    let items : c.in_ok-known.known.items ≡ replicate {A = Option ℕ} (length c.args.program.now) None = c.in_ok-known.ensures in
    let none = ap unknown_in items ∙ unknown_all (length c.args.program.now) in
    (subst (λ (known : List (Option ℕ)). IsSolving c.args.program.now c.args.weights.now known) (sym items) (solving_begun c.args.program.now c.args.weights.now), omega (arith, none))

pub next_bound-requires-clause-known : goal.next_bound-requires-clause-known
next_bound-requires-clause-known c = subst AreWithin (sym c.deref.ensures.value) (solving_within c.args.program.now c.args.weights.now c.loop.known.items c.loop.invariant.0)

pub index_mut-requires : goal.index_mut-requires
index_mut-requires c =
    let next = next_here c.loop.known.items c.loop.invariant.0 c.deref.result.now c.deref.ensures.value c.in-Some.number c.in-Some.bound c.in_ok-number.field-0 c.in-Some.is (c.in_ok-number.ensures {u = tt}).found in
    let inside = slice_get_within c.args.program.now c.in-Some.number next.procedure next.here in
    let long = solving_long c.args.program.now c.args.weights.now c.loop.known.items c.loop.invariant.0 in
    omega (arith, inside, long, c.loop.known.ok.0)

pub returns-in-None : goal.returns-in-None
returns-in-None c =
    let fixpoint : IsFixpoint c.args.program.now c.args.weights.now c.loop.known.items = subst (λ (known : List (Option ℕ)). IsFixpoint c.args.program.now c.args.weights.now known) c.deref.ensures.value (c.in_ok-number.ensures.none c.in-None.is) in
    solving_done c.args.program.now c.args.weights.now c.requires.boundable c.loop.known.items c.loop.invariant.0 fixpoint

pub loop-preserved : goal.loop-preserved
loop-preserved c =
    let next = next_here c.loop.known.items c.loop.invariant.0 c.deref.result.now c.deref.ensures.value c.in-Some.number c.in-Some.bound c.in_ok-number.field-0 c.in-Some.is (c.in_ok-number.ensures {u = tt}).found in
    let less = unknown_less c.loop.known.items c.in-Some.number c.in-Some.bound next.unknown in
    (solving_more c.args.program.now c.args.weights.now c.loop.known.items c.in-Some.number c.in-Some.bound c.loop.invariant.0 next, omega (arith, less, c.loop.invariant.1))

pub returns : goal.returns
returns c = solving_done c.args.program.now c.args.weights.now c.requires.boundable c.loop.known.items c.loop.invariant.0 (none_unknown_left c.args.program.now c.args.weights.now c.loop.known.items (omega (arith, c.loop.invariant.1, c.loop-test.false)))
