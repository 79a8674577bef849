use Rattle.std.proofs.Common.{◌≡◌, ℕ, ◌+◌, ◌<◌, ◌≤◌, ◌⊎◌, inl, inr, None, ap, subst, sym, ◌∙◌, arith}
use Rattle.tw_verify.proofs.VerifierNames.{cases_lt, flow_of, flows, length-map, option_and_then, option_map, slice_get_past, structure_rejection, structure_rejection_at, verify_error_code}
use Rattle.tw_verify.proofs.structure.ask_structure.Goals as goal

pub loop-place-preserved : goal.loop-place-preserved
loop-place-preserved c = λ k before. by k before (cases_lt k c.loop-place.place)
  where
    here : structure_rejection_at (flows c.args.code.now) c.loop-place.place ≡ None
    here = sym c.structure_rejection.ensures ∙ ap (option_map verify_error_code) c.in_default.is

    by : (k : ℕ) → k < c.loop-place.place + 1 → (k < c.loop-place.place) ⊎ (c.loop-place.place ≤ k) → structure_rejection_at (flows c.args.code.now) k ≡ None
    by k before (inl earlier) = c.loop-place.invariant k earlier
    by k before (inr later) = let same : c.loop-place.place ≡ k = omega arith in subst (λ (n : ℕ). structure_rejection_at (flows c.args.code.now) n ≡ None) same here

pub returns-clause-accepted : goal.returns-clause-accepted
returns-clause-accepted c = λ place. by place (cases_lt place c.loop-place.place)
  where
    by : (place : ℕ) → (place < c.loop-place.place) ⊎ (c.loop-place.place ≤ place) → structure_rejection_at (flows c.args.code.now) place ≡ None
    by place (inl within) = c.loop-place.invariant place within
    by place (inr past) = ap (option_and_then (structure_rejection (flows c.args.code.now) place)) (slice_get_past (flows c.args.code.now) place (omega (arith, length-map c.args.code.now flow_of, c.loop-place-test.false)))
