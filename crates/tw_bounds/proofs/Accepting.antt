-- An accepted program can be bounded, and a budget is the bound of a walk where each place costs 1.
use Rattle.std.proofs.Common.{◌≡◌, ℕ, ◌<◌, Bool, true, false, List, [], ◌∷◌, length, slice_get, Some, refl, sym, ◌∙◌, subst, arith, ◌⊎◌, inl, inr}
use Rattle.tw_bounds.proofs.Names.{Action, AllYes, AreRight, Calls, Flow, IsBoundable, IsBudget, IsGreatestCost, IsProgram, Procedure, Typings, cost_of, requires_action, requires_priority, slice_get_within, typing_at, yes_after}
use Rattle.tw_code.specs.declared.instr.Instr.TheVariants as instr
use Rattle.tw_soundness.proofs.Called.{callee_met}
use Rattle.tw_soundness.proofs.Running.{asked_at}

pub is_boundable : (program : List Procedure) (typings : Typings) → IsProgram program → AreRight program typings → IsBoundable program
is_boundable program typings is are = record { structured = λ k p here. (are.accepted.each k p here).structured; inside = inside }
  where
    called_inside : (waits : Bool) (k : ℕ) (p : Procedure) (action : Action) (place : ℕ) → AllYes (requires_action waits program p action (typing_at typings k place)) → action.procedure < length program
    called_inside waits k p action place met =
        let callee = callee_met waits p.registers (slice_get program action.procedure) action.args (typing_at typings k place) (yes_after (requires_priority p.registers action.priority) _ met.1) in
        slice_get_within program action.procedure callee.procedure callee.is

    inside : (k q : ℕ) → Calls program k q → q < length program
    inside k q call = by call.4
      where
        by : ((slice_get call.0.code call.1 ≡ Some (instr.Rule call.2)) ⊎ (slice_get call.0.code call.1 ≡ Some (instr.Put call.2))) → q < length program
        by (inl at) = subst (λ (n : ℕ). n < length program) call.5 (called_inside true k call.0 call.2 call.1 (asked_at program typings is are k call.0 call.3 call.1 (instr.Rule call.2) at))
        by (inr at) = subst (λ (n : ℕ). n < length program) call.5 (called_inside false k call.0 call.2 call.1 (asked_at program typings is are k call.0 call.3 call.1 (instr.Put call.2) at))

-- each place costs 1
ones : (walk : List ℕ) → cost_of (λ _. 1) walk ≡ length walk
ones [] = refl
ones (place ∷ walk) = let h = ones walk in omega arith

pub budget_is_greatest : (code : List Flow) (n : ℕ) → IsBudget code n → IsGreatestCost code (λ _. 1) n
budget_is_greatest code n b = record { some = (b.some.0, b.some.1, ones b.some.0 ∙ b.some.2); most = λ walk w. let e = ones walk in let m = b.most walk w in omega arith }

pub greatest_is_budget : (code : List Flow) (n : ℕ) → IsGreatestCost code (λ _. 1) n → IsBudget code n
greatest_is_budget code n d = record { some = (d.some.0, d.some.1, sym (ones d.some.0) ∙ d.some.2); most = λ walk w. let e = ones walk in let m = d.most walk w in omega arith }
