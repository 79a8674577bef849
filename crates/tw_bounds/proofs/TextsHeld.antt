-- The texts of tasks and rules are at most as many as their procedures have registers of texts.
use Rattle.std.proofs.Common.{◌≡◌, ℕ, suc, ◌+◌, ◌*◌, ◌≤◌, Bool, true, false, if◌then◌else◌, List, [], ◌∷◌, filter, length, map, slice_get, Option, Some, None, refl, sym, ap, ◌∙◌, arith, inl, inr}
use Rattle.std.specs.declared.cmp.Ordering.{Ordering}
use Rattle.tw_bounds.proofs.Names.{Actor, AreBounds, AreRight, Arg, ArgFits, FinMap, Frame, Free, IsEntry, IsHeld, IsProgram, IsTotalOrder, Param, Procedure, Ready, Ref, RightArg, RightType, Rule, RuleArgsFit, Scalar, Stage, State, Store, Task, Typings, Unasked, Value, ValueArg, ValuesFit, Waiting, Weights, accepted, accepts, actor_cmp, actor_cmp_total, and_parts, entries, frame_texts, get, get_entry, is_text, is_val, mul-le-mul_left, nat_cmp, nat_cmp_total, rule_texts, same_scalar, same_scalars, scalar_of, task_texts, text_registers, texts_among, texts_held, texts_stored, value_types, values_fit, values_in}
use Rattle.tw_types.specs.Totals.{sum_of, total}
use Rattle.tw_soundness.specs.InOrder.{right_until}
use Rattle.tw_soundness.proofs.Taking.{args_values}
use Rattle.tw_bounds.proofs.Holding.{one_if}
use Rattle.tw_bounds.proofs.Moved.{types_fit}
use Rattle.tw_bounds.proofs.Paying.{AreBounded, frame_owes, owed_in, owes, rule_owes, starts, task_owes}

-- ---- two sums over a map

module _ {K X : Type 0} (R : K → K → Ordering) (o : IsTotalOrder R) (d : ℕ) (f g : X → ℕ) where
  sums_le : (es : List (K × X)) → ((e : K × X) → IsEntry e es → d * f e.1 ≤ g e.1) → d * sum_of f es ≤ sum_of g es
  sums_le [] each = omega arith
  sums_le (e ∷ es) each =
      let first = each e (inl refl) in
      let rest = sums_le es (λ x there. each x (inr there)) in
      let split : d * (f e.1 + sum_of f es) ≡ d * f e.1 + d * sum_of f es = omega arith in
      omega (arith, first, rest, split)

  pub totals_le : (m : FinMap R X) → ((k : K) (x : X) → get m k ≡ Some x → d * f x ≤ g x) → d * total f m ≤ total g m
  unfolding total
  totals_le m each = sums_le (entries m) (λ e there. each e.0 e.1 (get_entry R o m e there))

-- ---- values and their types

one_more : (ty : Scalar) (types : List Scalar) → text_registers (ty ∷ types) ≡ one_if (is_text ty) + text_registers types
one_more ty types = by (is_text ty)
  where
    by : (b : Bool) → length (if b then ty ∷ filter is_text types else filter is_text types) ≡ one_if b + text_registers types
    by true = omega arith
    by false = omega arith

texts_by_types : (values : List Value) → texts_among values ≡ text_registers (map scalar_of values)
texts_by_types [] = refl
texts_by_types (x ∷ values) = by (is_text (scalar_of x)) (texts_by_types values)
  where
    by : (b : Bool) → texts_among values ≡ text_registers (map scalar_of values)
        → length (if b then x ∷ filter (λ y. is_text (scalar_of y)) values else filter (λ y. is_text (scalar_of y)) values) ≡ length (if b then scalar_of x ∷ filter is_text (map scalar_of values) else filter is_text (map scalar_of values))
    by true rest = ap suc rest
    by false rest = rest

pub texts_fit : (types : List Scalar) (values : List Value) → ValuesFit types values → texts_among values ≡ text_registers types
texts_fit types values fit = texts_by_types values ∙ ap text_registers (types_fit types values fit)

-- the first registers have at most the texts of all
first_few : (types registers : List Scalar) → length types ≤ length registers → values_fit types registers ≡ true → text_registers types ≤ text_registers registers
first_few [] registers few fit = omega arith
first_few (ty ∷ types) [] few fit = absurd (omega (arith, few))
first_few (ty ∷ types) (declared ∷ registers) few fit =
    let both = and_parts (same_scalar declared ty) (values_fit types registers) fit in
    let rest = first_few types registers (omega (arith, few)) both.1 in
    let same = ap (λ (s : Scalar). one_if (is_text s)) (same_scalars declared ty both.0) in
    omega (arith, rest, same, one_more ty types, one_more declared registers)

-- ---- the values of a rule's arguments

rule_values : (s : Store) (params : List Param) (stages : List Stage) (args : List Arg) → RuleArgsFit s params stages args → ValuesFit (value_types params) (values_in args)
rule_values s [] [] [] fit = tt
rule_values s [] [] (arg ∷ args) fit = absurd fit
rule_values s [] (stage ∷ stages) args fit = absurd fit
rule_values s (p ∷ params) [] args fit = absurd fit
rule_values s (p ∷ params) (stage ∷ stages) [] fit = absurd fit
rule_values s (p ∷ params) (stage ∷ stages) (arg ∷ args) fit = by stage fit.1 (rule_values s params stages args fit.2)
  where
    one : (b : Bool) (right : RightType) (a : Arg) → ArgFits s p (if b then None else Some right) a → ValuesFit (value_types params) (values_in args) → ValuesFit (if b then p.ty.scalar ∷ value_types params else value_types params) (values_in (a ∷ args))
    one true right (ValueArg x) is rest = (is, rest)
    one true right (RightArg id) is rest = absurd is
    one false right (ValueArg x) is rest = absurd is
    one false right (RightArg id) is rest = rest

    by : (at : Stage) → ArgFits s p (right_until at p) arg → ValuesFit (value_types params) (values_in args) → ValuesFit (value_types (p ∷ params)) (values_in (arg ∷ args))
    by Free is rest = one (is_val p.mode) (record { mode = p.mode; ty = p.ty }) arg is rest
    by Unasked is rest = one (is_val p.mode) (record { mode = Ref; ty = p.ty }) arg is rest
    by Waiting is rest = one (is_val p.mode) (record { mode = Ref; ty = p.ty }) arg is rest
    by Ready is rest = one (is_val p.mode) (record { mode = p.mode; ty = p.ty }) arg is rest

-- ---- the texts of a state

-- counts the registers of texts of a procedure, by its number
abbrev pub registers_in : Option Procedure → ℕ
registers_in None = 0
registers_in (Some p) = text_registers p.registers

abbrev pub frame_registers : List Procedure → Frame → ℕ
frame_registers program f = registers_in (slice_get program f.procedure)

-- counts the texts of a state, by the registers of its running tasks
abbrev pub texts_by_registers : List Procedure → State → ℕ
texts_by_registers program s = texts_stored s.store + (total rule_texts s.rules + (total task_texts s.tasks + total (frame_registers program) s.frames))

module _ (program : List Procedure) (typings : Typings) (is : IsProgram program) (are : AreRight program typings) where
  -- the values of parameters fill registers of their types
  params_few : (k : ℕ) (p : Procedure) → slice_get program k ≡ Some p → text_registers (value_types p.params) ≤ text_registers p.registers
  params_few k p here =
      let first = (accepted program typings (accepts program typings is are)).starts k p here in
      first_few (value_types p.params) p.registers first.few first.fit

  module _ (s : State) (held : IsHeld program typings s) where
    frame_is : (a : Actor) (f : Frame) (p : Procedure) → get s.frames a ≡ Some f → slice_get program f.procedure ≡ Some p → frame_texts f ≡ text_registers p.registers
    frame_is a f p runs here = texts_fit p.registers f.position.values (held.types.values a f p runs here)

    task_few : (number : ℕ) (task : Task) (p : Procedure) → get s.tasks number ≡ Some task → slice_get program task.procedure ≡ Some p → task_texts task ≤ text_registers p.registers
    task_few number task p waits here =
        let same = texts_fit (value_types p.params) (values_in task.args) (args_values s.store p.params task.args (held.types.args number task p waits here)) in
        omega (arith, same, params_few task.procedure p here)

    pub rule_few : (number : ℕ) (rule : Rule) (p : Procedure) → get s.rules number ≡ Some rule → slice_get program rule.procedure ≡ Some p → rule_texts rule ≤ text_registers p.registers
    rule_few number rule p pending here =
        let same = texts_fit (value_types p.params) (values_in rule.args) (rule_values s.store p.params rule.stages rule.args (held.types.rules number rule p pending here)) in
        omega (arith, same, params_few rule.procedure p here)

    pub task_within : (number : ℕ) (task : Task) → get s.tasks number ≡ Some task → task_texts task ≤ registers_in (slice_get program task.procedure)
    task_within number task waits =
        let p = held.types.procedures.tasks number task waits in
        omega (arith, task_few number task p.0 waits p.1, ap registers_in p.1)

    pub rule_within : (number : ℕ) (rule : Rule) → get s.rules number ≡ Some rule → rule_texts rule ≤ registers_in (slice_get program rule.procedure)
    rule_within number rule pending =
        let p = held.types.procedures.rules number rule pending in
        omega (arith, rule_few number rule p.0 pending p.1, ap registers_in p.1)

    frame_same : (a : Actor) (f : Frame) → get s.frames a ≡ Some f → frame_texts f ≡ frame_registers program f
    frame_same a f runs =
        let p = held.types.procedures.frames a f runs in
        frame_is a f p.0 runs p.1 ∙ sym (ap registers_in p.1)

    pub texts_same : texts_by_registers program s ≡ texts_held s
    texts_same =
        let there = totals_le actor_cmp actor_cmp_total 1 (frame_registers program) frame_texts s.frames (λ a f runs. omega (arith, frame_same a f runs)) in
        let back = totals_le actor_cmp actor_cmp_total 1 frame_texts (frame_registers program) s.frames (λ a f runs. omega (arith, frame_same a f runs)) in
        omega (arith, there, back)

  -- what a state owes pays for the texts of its tasks and rules
  module _ (weights : Weights) (bounds : List (Option ℕ)) (all : AreBounds program weights bounds) (s : State) (held : IsHeld program typings s) (bounded : AreBounded program weights bounds s) where
    frame_pays : (a : Actor) (f : Frame) → get s.frames a ≡ Some f → weights.text * frame_texts f ≤ frame_owes program weights bounds f
    frame_pays a f runs =
        let p = held.types.procedures.frames a f runs in
        let same = ap (λ (n : ℕ). weights.text * n) (frame_is s held a f p.0 runs p.1) in
        omega (arith, same, ap (λ o. owed_in program weights bounds o f) p.1)

    task_pays : (number : ℕ) (task : Task) → get s.tasks number ≡ Some task → weights.text * task_texts task ≤ task_owes program weights bounds task
    task_pays number task waits =
        let p = held.types.procedures.tasks number task waits in
        let known = bounded.tasks number task waits in
        let few = mul-le-mul_left weights.text (task_few s held number task p.0 waits p.1) in
        omega (arith, few, starts program typings is are weights bounds all task.procedure known.0 p.0 p.1 known.1)

    rule_pays : (number : ℕ) (rule : Rule) → get s.rules number ≡ Some rule → weights.text * rule_texts rule ≤ rule_owes program weights bounds rule
    rule_pays number rule pending =
        let p = held.types.procedures.rules number rule pending in
        let known = bounded.rules number rule pending in
        let few = mul-le-mul_left weights.text (rule_few s held number rule p.0 pending p.1) in
        omega (arith, few, starts program typings is are weights bounds all rule.procedure known.0 p.0 p.1 known.1)

    pub texts_owed : weights.text * (total rule_texts s.rules + (total task_texts s.tasks + total frame_texts s.frames)) ≤ owes program weights bounds s
    texts_owed =
        let frames = totals_le actor_cmp actor_cmp_total weights.text frame_texts (frame_owes program weights bounds) s.frames frame_pays in
        let tasks = totals_le nat_cmp nat_cmp_total weights.text task_texts (task_owes program weights bounds) s.tasks task_pays in
        let rules = totals_le nat_cmp nat_cmp_total weights.text rule_texts (rule_owes program weights bounds) s.rules rule_pays in
        let split : weights.text * (total rule_texts s.rules + (total task_texts s.tasks + total frame_texts s.frames)) ≡ weights.text * total rule_texts s.rules + (weights.text * total task_texts s.tasks + weights.text * total frame_texts s.frames) = omega arith in
        omega (arith, frames, tasks, rules, split)
