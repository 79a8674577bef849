-- Putting a task, a rule or a frame into a state.
use Rattle.std.proofs.Common.{◌≡◌, ℕ, ◌+◌, List, slice_get, Some, None, sym, ap, subst, ◌∙◌, arith, inl, inr, nat_cmp}
use Rattle.tw_soundness.proofs.MachineNames.{Actor, AreBegun, ArgsFit, BudgetsHeld, CountsHeld, Frame, IsAtPosition, IsBudget, IsWithinBudget, NumbersHeld, Procedure, RightsFit, Rule, RuleArgsFit, State, Task, TypesHeld, Typings, ValuesFit, actor_cmp, actor_cmp-IsAntisymmetric, actor_cmp_total, balanced_same, before_removal, flows, frame_reads, frame_writes, get, nat_cmp-IsAntisymmetric, nat_cmp_total, put_or_before, remove, rule_reads, rule_writes, same_Some, task_reads, task_writes, typing_of, with_frame, with_rule, with_task}
use Rattle.tw_soundness.proofs.Sums.{sum_apart, sum_new, sum_replaced}

module _ (program : List Procedure) (typings : Typings) where
  -- ---- a task, and a rule

  module _ (s : State) (task : Task) (p : Procedure) (here : slice_get program task.procedure ≡ Some p) (fit : ArgsFit s.store p.params task.args) where
    pub types_tasked : TypesHeld program typings s → TypesHeld program typings (with_task s task)
    types_tasked h = record {
      procedures = record {
        frames = h.procedures.frames;
        tasks = λ m t at. elim (put_or_before nat_cmp_total nat_cmp-IsAntisymmetric s.tasks s.next_task task m t at) [
          | inl e ↦ (p, ap (λ (z : Task). slice_get program z.procedure) (sym e.1) ∙ here)
          | inr old ↦ h.procedures.tasks m t old
        ];
        rules = h.procedures.rules;
      };
      store = h.store;
      values = h.values;
      rights = h.rights;
      args = λ m t q at there. elim (put_or_before nat_cmp_total nat_cmp-IsAntisymmetric s.tasks s.next_task task m t at) [
        | inl e ↦
            let q_is : p ≡ q = same_Some p q (sym here ∙ ap (λ (z : Task). slice_get program z.procedure) e.1 ∙ there) in
            subst (λ (z : Task). ArgsFit s.store q.params z.args) e.1 (subst (λ (u : Procedure). ArgsFit s.store u.params task.args) q_is fit)
        | inr old ↦ h.args m t q old there
      ];
      rules = h.rules;
    }

  pub numbers_tasked : (s : State) (task : Task) → NumbersHeld s → NumbersHeld (with_task s task)
  numbers_tasked s task h = record {
    tasks = λ m t at. elim (put_or_before nat_cmp_total nat_cmp-IsAntisymmetric s.tasks s.next_task task m t at) [
      | inl e ↦ let m_is = e.0 in omega arith
      | inr old ↦ let l = h.tasks m t old in omega arith
    ];
    rules = h.rules;
  }

  module _ (s : State) (rule : Rule) (p : Procedure) (here : slice_get program rule.procedure ≡ Some p) (fit : RuleArgsFit s.store p.params rule.stages rule.args) where
    pub types_ruled : TypesHeld program typings s → TypesHeld program typings (with_rule s rule)
    types_ruled h = record {
      procedures = record {
        frames = h.procedures.frames;
        tasks = h.procedures.tasks;
        rules = λ m t at. elim (put_or_before nat_cmp_total nat_cmp-IsAntisymmetric s.rules s.next_rule rule m t at) [
          | inl e ↦ (p, ap (λ (z : Rule). slice_get program z.procedure) (sym e.1) ∙ here)
          | inr old ↦ h.procedures.rules m t old
        ];
      };
      store = h.store;
      values = h.values;
      rights = h.rights;
      args = h.args;
      rules = λ m t q at there. elim (put_or_before nat_cmp_total nat_cmp-IsAntisymmetric s.rules s.next_rule rule m t at) [
        | inl e ↦
            let q_is : p ≡ q = same_Some p q (sym here ∙ ap (λ (z : Rule). slice_get program z.procedure) e.1 ∙ there) in
            subst (λ (z : Rule). RuleArgsFit s.store q.params z.stages z.args) e.1 (subst (λ (u : Procedure). RuleArgsFit s.store u.params rule.stages rule.args) q_is fit)
        | inr old ↦ h.rules m t q old there
      ];
    }

  pub numbers_ruled : (s : State) (rule : Rule) → NumbersHeld s → NumbersHeld (with_rule s rule)
  numbers_ruled s rule h = record {
    tasks = h.tasks;
    rules = λ m t at. elim (put_or_before nat_cmp_total nat_cmp-IsAntisymmetric s.rules s.next_rule rule m t at) [
      | inl e ↦ let m_is = e.0 in omega arith
      | inr old ↦ let l = h.rules m t old in omega arith
    ];
  }

  -- a task less
  pub types_untasked : (s : State) (n : ℕ) → TypesHeld program typings s → TypesHeld program typings (record s { tasks = remove s.tasks n })
  types_untasked s n h = record {
    procedures = record { frames = h.procedures.frames; tasks = λ m t at. h.procedures.tasks m t ((before_removal nat_cmp_total nat_cmp-IsAntisymmetric s.tasks n m t at).1); rules = h.procedures.rules };
    store = h.store;
    values = h.values;
    rights = h.rights;
    args = λ m t q at there. h.args m t q ((before_removal nat_cmp_total nat_cmp-IsAntisymmetric s.tasks n m t at).1) there;
    rules = h.rules;
  }

  pub numbers_untasked : (s : State) (n : ℕ) → NumbersHeld s → NumbersHeld (record s { tasks = remove s.tasks n })
  numbers_untasked s n h = record { tasks = λ m t at. h.tasks m t ((before_removal nat_cmp_total nat_cmp-IsAntisymmetric s.tasks n m t at).1); rules = h.rules }

  -- ---- a frame

  module _ (s : State) (a : Actor) (f : Frame) (p : Procedure) (here : slice_get program f.procedure ≡ Some p) (fits_place : IsAtPosition p f.spent f.position) where
    same : (g : Frame) (q : Procedure) → f ≡ g → slice_get program g.procedure ≡ Some q → p ≡ q
    same g q e there = same_Some p q (sym here ∙ ap (λ (z : Frame). slice_get program z.procedure) e ∙ there)

    pub types_framed : RightsFit s.store (typing_of typings f) f.rights → TypesHeld program typings s → TypesHeld program typings (with_frame s a f)
    types_framed fit h = record {
      procedures = record {
        frames = λ b g at. elim (put_or_before actor_cmp_total actor_cmp-IsAntisymmetric s.frames a f b g at) [
          | inl e ↦ (p, ap (λ (z : Frame). slice_get program z.procedure) (sym e.1) ∙ here)
          | inr old ↦ h.procedures.frames b g old
        ];
        tasks = h.procedures.tasks;
        rules = h.procedures.rules;
      };
      store = h.store;
      values = λ b g q at there. elim (put_or_before actor_cmp_total actor_cmp-IsAntisymmetric s.frames a f b g at) [
        | inl e ↦ subst (λ (z : Frame). ValuesFit q.registers z.position.values) e.1 (subst (λ (u : Procedure). ValuesFit u.registers f.position.values) (same g q e.1 there) fits_place.values)
        | inr old ↦ h.values b g q old there
      ];
      rights = λ b g at. elim (put_or_before actor_cmp_total actor_cmp-IsAntisymmetric s.frames a f b g at) [
        | inl e ↦ subst (λ (z : Frame). RightsFit s.store (typing_of typings z) z.rights) e.1 fit
        | inr old ↦ h.rights b g old
      ];
      args = h.args;
      rules = h.rules;
    }

    pub budgets_framed : BudgetsHeld program s → BudgetsHeld program (with_frame s a f)
    budgets_framed h = record {
      begun = λ b g q at there. elim (put_or_before actor_cmp_total actor_cmp-IsAntisymmetric s.frames a f b g at) [
        | inl e ↦ subst (λ (z : Frame). AreBegun (flows q.code) z.position.loops) e.1 (subst (λ (u : Procedure). AreBegun (flows u.code) f.position.loops) (same g q e.1 there) fits_place.begun)
        | inr old ↦ h.begun b g q old there
      ];
      within = λ b g q budget at there most. elim (put_or_before actor_cmp_total actor_cmp-IsAntisymmetric s.frames a f b g at) [
        | inl e ↦
            subst (λ (z : Frame). IsWithinBudget (flows q.code) budget z.spent z.position.place z.position.loops) e.1
            (subst (λ (u : Procedure). IsBudget (flows u.code) budget → IsWithinBudget (flows u.code) budget f.spent f.position.place f.position.loops) (same g q e.1 there) (fits_place.within budget) most)
        | inr old ↦ h.within b g q budget old there most
      ];
    }

  -- ---- counts: rights move from a frame to a task or a rule, and back

  module _ (s : State) (a : Actor) (f f₁ : Frame) (is : get s.frames a ≡ Some f) where
    pub counts_put : (task : Task) → get s.tasks s.next_task ≡ None
        → ((d : ℕ) → (frame_reads typings d f ≡ frame_reads typings d f₁ + task_reads program d task) × (frame_writes typings d f ≡ frame_writes typings d f₁ + task_writes program d task))
        → CountsHeld program typings s → CountsHeld program typings (with_frame (with_task s task) a f₁)
    counts_put task fresh given h = record {
      writers = h.writers;
      balanced = balanced_same s.store.live _ _ _ _ h.balanced (λ d.
          let i = sum_replaced actor_cmp actor_cmp_total actor_cmp-IsAntisymmetric (frame_reads typings d) s.frames a f f₁ is in
          let j = sum_replaced actor_cmp actor_cmp_total actor_cmp-IsAntisymmetric (frame_writes typings d) s.frames a f f₁ is in
          let k = sum_new nat_cmp nat_cmp_total nat_cmp-IsAntisymmetric (task_reads program d) s.tasks s.next_task task fresh in
          let l = sum_new nat_cmp nat_cmp_total nat_cmp-IsAntisymmetric (task_writes program d) s.tasks s.next_task task fresh in
          let g = given d in
          (omega (arith, g.0), omega (arith, g.1)));
    }

    pub counts_rule : (rule : Rule) → get s.rules s.next_rule ≡ None
        → ((d : ℕ) → (frame_reads typings d f ≡ frame_reads typings d f₁ + rule_reads program d rule) × (frame_writes typings d f ≡ frame_writes typings d f₁ + rule_writes program d rule))
        → CountsHeld program typings s → CountsHeld program typings (with_frame (with_rule s rule) a f₁)
    counts_rule rule fresh given h = record {
      writers = h.writers;
      balanced = balanced_same s.store.live _ _ _ _ h.balanced (λ d.
          let i = sum_replaced actor_cmp actor_cmp_total actor_cmp-IsAntisymmetric (frame_reads typings d) s.frames a f f₁ is in
          let j = sum_replaced actor_cmp actor_cmp_total actor_cmp-IsAntisymmetric (frame_writes typings d) s.frames a f f₁ is in
          let k = sum_new nat_cmp nat_cmp_total nat_cmp-IsAntisymmetric (rule_reads program d) s.rules s.next_rule rule fresh in
          let l = sum_new nat_cmp nat_cmp_total nat_cmp-IsAntisymmetric (rule_writes program d) s.rules s.next_rule rule fresh in
          let g = given d in
          (omega (arith, g.0), omega (arith, g.1)));
    }

  pub counts_took : (s : State) (a : Actor) (number : ℕ) (task : Task) (f : Frame) → get s.frames a ≡ None → get s.tasks number ≡ Some task
      → ((d : ℕ) → (frame_reads typings d f ≡ task_reads program d task) × (frame_writes typings d f ≡ task_writes program d task))
      → CountsHeld program typings s → CountsHeld program typings (with_frame (record s { tasks = remove s.tasks number }) a f)
  counts_took s a number task f free waits same h = record {
    writers = h.writers;
    balanced = balanced_same s.store.live _ _ _ _ h.balanced (λ d.
        let i = sum_new actor_cmp actor_cmp_total actor_cmp-IsAntisymmetric (frame_reads typings d) s.frames a f free in
        let j = sum_new actor_cmp actor_cmp_total actor_cmp-IsAntisymmetric (frame_writes typings d) s.frames a f free in
        let k = sum_apart nat_cmp nat_cmp_total nat_cmp-IsAntisymmetric (task_reads program d) s.tasks number task waits in
        let l = sum_apart nat_cmp nat_cmp_total nat_cmp-IsAntisymmetric (task_writes program d) s.tasks number task waits in
        let g = same d in
        (omega (arith, g.0), omega (arith, g.1)));
  }
