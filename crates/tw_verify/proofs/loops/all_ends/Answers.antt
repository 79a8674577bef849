use Rattle.std.proofs.Common.{◌≡◌, ℕ, ◌+◌, ◌-◌, List, length, Option, None, sym, subst, arith, set}
use Rattle.tw_verify.proofs.VerifierNames.{EndsFrom, flow_of, flows, length-map, slice_get_within}
use Rattle.tw_verify.proofs.Places.{ends_more, end_past_code}
use Rattle.tw_verify.proofs.loops.all_ends.Goals as goal

pub loop-place-init : goal.loop-place-init
loop-place-init c =
    let n = length (flows c.args.code.now) in
    let count : length c.args.code.now ≡ n = sym (length-map c.args.code.now flow_of) in
    let long : length c.in_ok-ends.ends.items ≡ n + 1 = omega (arith, c.in_ok-ends.ensures.len, count) in
    let none : EndsFrom (flows c.args.code.now) c.in_ok-ends.ends.items (n + 1) = record { long = long; each = λ k y ahead at. absurd (omega (arith, long, slice_get_within c.in_ok-ends.ends.items k y at)) } in
    subst (λ (m : ℕ). EndsFrom (flows c.args.code.now) (set c.in_ok-ends.ends.items m None) m) (sym count) (ends_more (flows c.args.code.now) c.in_ok-ends.ends.items n None (omega arith) none (sym (end_past_code (flows c.args.code.now))))

pub end_at-requires-clause-known : goal.end_at-requires-clause-known
end_at-requires-clause-known c =
    let here : c.loop-place.place ≡ c.loop-place.place - 1 + 1 = omega arith in
    subst (λ (n : ℕ). EndsFrom (flows c.args.code.now) c.deref.result.now n) here (subst (λ (ends : List (Option ℕ)). EndsFrom (flows c.args.code.now) ends c.loop-place.place) (sym c.deref.ensures.value) c.loop-place.invariant)

pub loop-place-preserved : goal.loop-place-preserved
loop-place-preserved c =
    let here : c.loop-place.place ≡ c.loop-place.place - 1 + 1 = omega arith in
    ends_more (flows c.args.code.now) c.loop-place.ends.items (c.loop-place.place - 1) c.end_at.result (omega (arith, length-map c.args.code.now flow_of)) (subst (λ (n : ℕ). EndsFrom (flows c.args.code.now) c.loop-place.ends.items n) here c.loop-place.invariant) c.end_at.ensures
