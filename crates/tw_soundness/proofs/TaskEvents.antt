-- RULE, PUT and Take keep the invariant, and never trap.
use Rattle.std.proofs.Common.{◌≡◌, ℕ, ◌+◌, ◌≤◌, Bool, true, false, ◌&&◌, List, [], map, length, slice_get, is_none, Option, Some, None, refl, sym, ap, subst, ◌∙◌, arith}
use Rattle.tw_soundness.proofs.MachineNames.{Action, Actor, ActorCounts, Called, Frame, IsAtPosition, IsBudget, IsHeld, IsWithinBudget, Ok, Procedure, RightsFit, Rule, RuleArgsFit, RunningInstr, State, Task, Typing, Typings, Went, actor_cmp, actor_cmp-IsAntisymmetric, actor_cmp_total, and_parts, at_next_place, balanced_same, best, best_waits, called, context_of, count_of, first_rights, first_stage, first_waits, flows, frame_after_call, frame_of, frame_reads, frame_writes, get, ids_in, is_in, new_rule, number_in_kind, outcome_of, over, params_in, params_of, put_called, put_event, read_by, remove, requires_action, rule_event, rule_reads, rule_writes, start_typing, take_event, task_reads, task_writes, total, typing_at, typing_of, value_types, values_fit, values_in, with_frame, with_rule, with_task, without_args, write_by, ◌>>=◌}
use Rattle.tw_soundness.proofs.Over.{over_params}
use Rattle.tw_soundness.proofs.Asked.{named_new}
use Rattle.tw_soundness.proofs.Called.{CalledSo, called_goes, put_goes}
use Rattle.tw_soundness.proofs.Framed.{types_tasked, numbers_tasked, types_ruled, numbers_ruled, types_untasked, numbers_untasked, types_framed, budgets_framed, counts_put, counts_rule, counts_took}
use Rattle.tw_soundness.proofs.Given.{put_fit, rule_fit}
use Rattle.tw_soundness.proofs.Values.{AllYes}
use Rattle.tw_soundness.proofs.Registers.{Fits}
use Rattle.tw_soundness.proofs.Steps.{Keeps, goes_keeps, ok_keeps, enabled_keeps, only_if_keeps}
use Rattle.tw_soundness.proofs.Taking.{args_values, filled_fits, over_start, start_fits}
use Rattle.tw_soundness.proofs.Sums.{sum_apart}

module _ (program : List Procedure) (typings : Typings) where
  -- the rights of the others
  abbrev pub other_reads : State → Actor → ℕ → ℕ
  other_reads s a d = total (frame_reads typings d) (remove s.frames a) + (total (task_reads program d) s.tasks + (total (rule_reads program d) s.rules + count_of d s.outputs))

  abbrev pub other_writes : State → Actor → ℕ → ℕ
  other_writes s a d = total (frame_writes typings d) (remove s.frames a) + (total (task_writes program d) s.tasks + total (rule_writes program d) s.rules)

  module _ (s : State) (held : IsHeld program typings s) where
    pub fresh_task : get s.tasks s.next_task ≡ None
    fresh_task = by (get s.tasks s.next_task) refl
      where
        by : (o : Option Task) → get s.tasks s.next_task ≡ o → o ≡ None
        by None e = refl
        by (Some task) e = let l = held.numbers.tasks s.next_task task e in absurd (omega arith)

    pub fresh_rule : get s.rules s.next_rule ≡ None
    fresh_rule = by (get s.rules s.next_rule) refl
      where
        by : (o : Option Rule) → get s.rules s.next_rule ≡ o → o ≡ None
        by None e = refl
        by (Some rule) e = let l = held.numbers.rules s.next_rule rule e in absurd (omega arith)

    -- ---- a task that runs

    module _ (a : Actor) (f : Frame) (is : get s.frames a ≡ Some f) where
      -- its context fits
      pub fits_of : Fits (typing_of typings f) (context_of s f) (other_reads s a) (other_writes s a)
      fits_of = record {
        balanced = balanced_same s.store.live _ _ _ _ held.counts.balanced (λ d.
            let h = sum_apart actor_cmp actor_cmp_total actor_cmp-IsAntisymmetric (frame_reads typings d) s.frames a f is in
            let k = sum_apart actor_cmp actor_cmp_total actor_cmp-IsAntisymmetric (frame_writes typings d) s.frames a f is in
            (omega arith, omega arith));
        writers = held.counts.writers;
        store = held.types.store;
        rights = held.types.rights a f is;
      }

      -- its position before RULE or PUT; `position_next` and `typing_on` give the position and typing after it
      module _ (p : Procedure) (here : slice_get program f.procedure ≡ Some p) (action : Action) (fits_place : IsAtPosition p (f.spent + 1) (at_next_place f.position))
          (next : typing_at typings f.procedure (f.position.place + 1) ≡ without_args (params_of program action.procedure) action.args (typing_of typings f)) where
        module _ (waits : Bool) (call : Called) (so : CalledSo program p (context_of s f) (typing_of typings f) (other_reads s a) (other_writes s a) action (fits_of) (held.types.values a f p is here) waits call) where
          abbrev rest_of : Frame
          rest_of = frame_after_call f call.rights

          left_is : typing_of typings rest_of ≡ without_args so.callee.params action.args (typing_of typings f)
          left_is = next ∙ ap (λ o. without_args (params_in o) action.args (typing_of typings f)) so.is

          fit_after : RightsFit s.store (typing_of typings rest_of) call.rights
          fit_after = subst (λ (t : Typing). RightsFit s.store t call.rights) (sym left_is) so.so.rights_left

          of_callee : slice_get program call.task.procedure ≡ Some so.callee
          of_callee = ap (slice_get program) so.procedure ∙ so.is

          given_reads : (d : ℕ) → frame_reads typings d f ≡ frame_reads typings d rest_of + over_params (read_by d) (params_in (slice_get program call.task.procedure)) call.task.args
          given_reads d =
              let h = so.so.reads d in
              let l : frame_reads typings d rest_of ≡ over (read_by d) (without_args so.callee.params action.args (typing_of typings f)) call.rights = ap (λ (t : Typing). over (read_by d) t call.rights) left_is in
              let k : over_params (read_by d) (params_in (slice_get program call.task.procedure)) call.task.args ≡ over_params (read_by d) so.callee.params call.task.args = ap (λ o. over_params (read_by d) (params_in o) call.task.args) of_callee in
              omega arith

          given_writes : (d : ℕ) → frame_writes typings d f ≡ frame_writes typings d rest_of + over_params (write_by d) (params_in (slice_get program call.task.procedure)) call.task.args
          given_writes d =
              let h = so.so.writes d in
              let l : frame_writes typings d rest_of ≡ over (write_by d) (without_args so.callee.params action.args (typing_of typings f)) call.rights = ap (λ (t : Typing). over (write_by d) t call.rights) left_is in
              let k : over_params (write_by d) (params_in (slice_get program call.task.procedure)) call.task.args ≡ over_params (write_by d) so.callee.params call.task.args = ap (λ o. over_params (write_by d) (params_in o) call.task.args) of_callee in
              omega arith

        -- PUT
        put_held : (call : Called) → CalledSo program p (context_of s f) (typing_of typings f) (other_reads s a) (other_writes s a) action (fits_of) (held.types.values a f p is here) false call
            → IsHeld program typings (with_frame (with_task s call.task) a (frame_after_call f call.rights))
        put_held call so =
            let numbers = numbers_tasked program typings s call.task held.numbers in
            record {
              numbers = record { tasks = numbers.tasks; rules = numbers.rules };
              types = types_framed program typings (with_task s call.task) a (frame_after_call f call.rights) p here fits_place (fit_after false call so)
                  (types_tasked program typings s call.task so.callee (of_callee false call so) (put_fit s.store so.callee.params call.task.args so.so.args) held.types);
              counts = counts_put program typings s a f (frame_after_call f call.rights) is call.task fresh_task (λ d. (given_reads false call so d, given_writes false call so d)) held.counts;
              notices = held.notices;
              budgets = budgets_framed program typings (with_task s call.task) a (frame_after_call f call.rights) p here fits_place (record { begun = held.budgets.begun; within = held.budgets.within });
            }

        pub put_goes_on : (at : RunningInstr) → at.frame ≡ f → at.procedure ≡ p → AllYes (requires_action false program p action (typing_of typings f)) → Keeps (put_event program s a at action) (IsHeld program typings)
        put_goes_on at of_f of_p met =
            rw (of_f, of_p) (goes_keeps (put_called program p.kind (context_of s f) action) _ _ _
            (put_goes program p (context_of s f) (typing_of typings f) (other_reads s a) (other_writes s a) action fits_of (held.types.values a f p is here) met)
            (λ call so. put_held call so))

        -- RULE
        rule_held : (call : Called) → CalledSo program p (context_of s f) (typing_of typings f) (other_reads s a) (other_writes s a) action (fits_of) (held.types.values a f p is here) true call
            → IsHeld program typings (with_frame (with_rule s (new_rule (number_in_kind a) call.params call.task)) a (frame_after_call f call.rights))
        rule_held call so =
            let rule : Rule = new_rule (number_in_kind a) call.params call.task in
            let numbers = numbers_ruled program typings s rule held.numbers in
            record {
              numbers = record { tasks = numbers.tasks; rules = numbers.rules };
              types = types_framed program typings (with_rule s rule) a (frame_after_call f call.rights) p here fits_place (fit_after true call so)
                  (types_ruled program typings s rule so.callee (of_callee true call so)
                  (subst (λ ps. RuleArgsFit s.store so.callee.params (map (λ q. first_stage q.mode) ps) call.task.args) (sym so.params) (rule_fit s.store so.callee.params call.task.args so.so.args)) held.types);
              counts = counts_rule program typings s a f (frame_after_call f call.rights) is rule fresh_rule (λ d. (given_reads true call so d, given_writes true call so d)) held.counts;
              notices = named_new s.store.live s.notices s.rules held.notices s.next_rule rule fresh_rule (first_waits call.params);
              budgets = budgets_framed program typings (with_rule s rule) a (frame_after_call f call.rights) p here fits_place (record { begun = held.budgets.begun; within = held.budgets.within });
            }

        pub rule_goes_on : (at : RunningInstr) → at.frame ≡ f → at.procedure ≡ p → AllYes (requires_action true program p action (typing_of typings f)) → Keeps (rule_event program s a at action) (IsHeld program typings)
        rule_goes_on at of_f of_p met =
            rw (of_f, of_p) (goes_keeps (called program p.kind (context_of s f) action) _ _ _
            (called_goes program p (context_of s f) (typing_of typings f) (other_reads s a) (other_writes s a) action fits_of (held.types.values a f p is here) true met)
            (λ call so. rule_held call so))

  -- facts of the verifier on the first place
  pub record Starts (k : ℕ) (p : Procedure) : Type 0 where
    pub few : length (value_types p.params) ≤ length p.registers
    pub fit : values_fit (value_types p.params) p.registers ≡ true
    pub typing : typing_at typings k 0 ≡ start_typing p.params
    pub within : (budget : ℕ) → IsBudget (flows p.code) budget → IsWithinBudget (flows p.code) budget 0 0 []

  none_is : {A : Type 0} (o : Option A) → is_none o ≡ true → o ≡ None
  none_is None e = refl
  none_is (Some x) e = cc

  module _ (starts : (k : ℕ) (p : Procedure) → slice_get program k ≡ Some p → Starts k p) (s : State) (held : IsHeld program typings s) where
    taken_goes : (a : Actor) (number : ℕ) (t : Task) → get s.frames a ≡ None → get s.tasks number ≡ Some t
        → Keeps (outcome_of (frame_of program number t) >>= λ frame. Went (with_frame (record s { tasks = remove s.tasks number }) a frame)) (IsHeld program typings)
    taken_goes a number t free waits =
        let here = held.types.procedures.tasks number t waits in
        let p = here.0 in
        let fit = held.types.args number t p waits here.1 in
        let first = starts t.procedure p here.1 in
        let all = filled_fits (value_types p.params) p.registers (values_in t.args) (args_values s.store p.params t.args fit) first.few first.fit in
        let f₁ : Frame = record { task = number; procedure = t.procedure; position = record { place = 0; values = all.0; loops = [] }; rights = first_rights (ids_in t.args); spent = 0 } in
        let goes : frame_of program number t ≡ Ok f₁ = rw (here.1, all.1) refl in
        let fits_place : IsAtPosition p 0 (record { place = 0; values = all.0; loops = [] }) = record { values = all.2; begun = tt; within = first.within } in
        let numbers = numbers_untasked program typings s number held.numbers in
        ok_keeps (frame_of program number t) (λ frame. Went (with_frame (record s { tasks = remove s.tasks number }) a frame)) (IsHeld program typings) f₁ goes (record {
          numbers = record { tasks = numbers.tasks; rules = numbers.rules };
          types = types_framed program typings (record s { tasks = remove s.tasks number }) a f₁ p here.1 fits_place
              (subst (λ (t₁ : Typing). RightsFit s.store t₁ (first_rights (ids_in t.args))) (sym first.typing) (start_fits s.store p.params t.args fit))
              (types_untasked program typings s number held.types);
          counts = counts_took program typings s a number t f₁ free waits (λ d. (
            ap (λ (t₁ : Typing). over (read_by d) t₁ (first_rights (ids_in t.args))) first.typing ∙ over_start (read_by d) (λ o. refl) s.store p.params t.args fit ∙ ap (λ (o : Option Procedure). over_params (read_by d) (params_in o) t.args) (sym here.1),
            ap (λ (t₁ : Typing). over (write_by d) t₁ (first_rights (ids_in t.args))) first.typing ∙ over_start (write_by d) (λ o. refl) s.store p.params t.args fit ∙ ap (λ (o : Option Procedure). over_params (write_by d) (params_in o) t.args) (sym here.1),
          )) held.counts;
          notices = held.notices;
          budgets = budgets_framed program typings (record s { tasks = remove s.tasks number }) a f₁ p here.1 fits_place (record { begun = held.budgets.begun; within = held.budgets.within });
        })

    pub take_keeps : (layout : ActorCounts) (a : Actor) → Keeps (take_event program layout a s) (IsHeld program typings)
    take_keeps layout a =
        only_if_keeps (is_in layout a && is_none (get s.frames a)) _ _ (λ both.
        enabled_keeps (best a s.tasks) _ _ (λ e first.
        taken_goes a e.0 e.1 (none_is (get s.frames a) (and_parts (is_in layout a) (is_none (get s.frames a)) both).1) (best_waits a s.tasks e first)))
