-- Pending rules, one by one; and when there may be a circle.
use Rattle.tw_report.proofs.Names.{Bool, List, None, Pending, Procedure, Some, State, [], add-one, ap, append-nil, append_assoc, arith, circle, circle_of, cond, drop, drop-cons, entries, false, get_or, len, length, map, nat_cmp, pending_of, pending_rules, refl, sym, true, waited_for, ℕ, ◌++◌, ◌+◌, ◌<◌, ◌==◌, ◌∙◌, ◌∷◌, ◌≡◌}
use Rattle.std.specs.Cmp.{nat_cmp_total}
use Rattle.std.specs.List.Sorted.{IsStrictlySortedBy}
use Rattle.std.specs.Map.{keys_of}
use Rattle.tw_types.specs.declared.ending.Ending.{Ending}
use Rattle.tw_types.specs.declared.ending.Ending.TheVariants.{Quiet, Stuck}
use Rattle.tw_types.specs.declared.stage.Stage.{Stage}
use Rattle.tw_types.specs.Rule.{Rule, is_waiting}
use Rattle.tw_types.specs.Task.{Arg, ValueArg, RightArg}
use Rattle.tw_types.proofs.Maps.{entries_view}
use Rattle.tw_code.specs.machine.Ending.{ending, is_quiet}
use Rattle.tw_machine.specs.Parts.{rules_of}

pub waited_more : (stage : Stage) (arg : Arg) (stages : List Stage) (args : List Arg) → waited_for (stage ∷ stages) (arg ∷ args) ≡ waited_for (stage ∷ []) (arg ∷ []) ++ waited_for stages args
waited_more stage (ValueArg x) stages args = refl
waited_more stage (RightArg id) stages args = by (is_waiting stage)
  where
    by : (w : Bool) → cond w (id ∷ waited_for stages args) (waited_for stages args) ≡ cond w (id ∷ []) [] ++ waited_for stages args
    by true = refl
    by false = refl

pub waited_none : (stages : List Stage) → waited_for stages [] ≡ []
waited_none [] = refl
waited_none (s ∷ stages) = refl

-- ---- the circle

-- the rules of the table are those of the state
pub pending_is : (program : List Procedure) (s : State) (es : List (ℕ × Rule)) (pending : List Pending) → rules_of es ≡ s.rules → IsStrictlySortedBy nat_cmp (keys_of es) → pending ≡ map (pending_of program) es → pending ≡ pending_rules program s
pending_is program s es pending same sorted is = is ∙ ap (map (pending_of program)) (sym (entries_view nat_cmp_total es sorted)) ∙ ap (λ rules. map (pending_of program) (entries rules)) same

pub circle_some : (program : List Procedure) (s : State) (e : Ending) → ending s ≡ Some e → circle program s ≡ circle_of (pending_rules program s)
circle_some program s end some = by (is_quiet s) refl some
  where
    by : (q : Bool) → is_quiet s ≡ q → cond q (Some (cond (len s.rules == 0) Quiet (Stuck (len s.rules)))) None ≡ Some end → cond q (circle_of (pending_rules program s)) None ≡ circle_of (pending_rules program s)
    by true is e = refl
    by false is e = cc

-- ---- one argument more

module _ {A : Type 0} (meaning : A → Arg) where
  pub waited_step : (stages : List Stage) (i : ℕ) (stage : Stage) (rest others : List A) (arg : A) (ids new whole : List ℕ) → i < length stages → rest ≡ arg ∷ others
      → new ≡ ids ++ waited_for (get_or stages i stage ∷ []) (meaning arg ∷ []) → ids ++ waited_for (drop i stages) (map meaning rest) ≡ whole → new ++ waited_for (drop (i + 1) stages) (map meaning others) ≡ whole
  waited_step stages i stage rest others arg ids new whole inside is made before =
      let one = get_or stages i stage in
      let next : drop i stages ≡ one ∷ drop (i + 1) stages = drop-cons stages i stage inside ∙ ap (λ (n : ℕ). one ∷ drop n stages) (sym (add-one i)) in
      ap (λ (t : List ℕ). t ++ waited_for (drop (i + 1) stages) (map meaning others)) made
      ∙ append_assoc ids (waited_for (one ∷ []) (meaning arg ∷ [])) (waited_for (drop (i + 1) stages) (map meaning others))
      ∙ ap (λ (t : List ℕ). ids ++ t) (sym (waited_more one (meaning arg) (drop (i + 1) stages) (map meaning others)))
      ∙ ap (λ (ss : List Stage). ids ++ waited_for ss (map meaning (arg ∷ others))) (sym next)
      ∙ ap (λ (given : List A). ids ++ waited_for (drop i stages) (map meaning given)) (sym is)
      ∙ before

  pub waited_end : (stages : List Stage) (rest : List A) (ids whole : List ℕ) → length rest ≡ 0 → ids ++ waited_for stages (map meaning rest) ≡ whole → ids ≡ whole
  waited_end stages [] ids whole none before = sym (append-nil ids) ∙ ap (λ (t : List ℕ). ids ++ t) (sym (waited_none stages)) ∙ before
  waited_end stages (arg ∷ rest) ids whole none before = absurd (omega (arith, none))
