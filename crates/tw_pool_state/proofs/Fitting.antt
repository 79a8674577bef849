-- Rights stay right when one rule, task or frame changes.
use Rattle.std.proofs.Common.{◌≡◌, ℕ, List, Option, Some, None, refl, sym, ap, subst, ◌∙◌, inl, inr, option_map}
use Rattle.tw_pool_state.proofs.PartNames.{Actor, Arg, ArgsMatch, FinMap, FrameFits, FrameView, Kind, Ordering, Places, Right, RightsFit, RuleOf, RulesOf, Stage, TaskOf, TasksByActor, TasksOf, TypedProgram, actor_cmp-IsAntisymmetric, actor_cmp_total, at_stage, before_removal, get, get_mapped, insert, mapped, nat_cmp-IsAntisymmetric, nat_cmp_total, params_of, put_or_before, remove, same_Some, task_from}

-- all other entries after an entry changes
pub record IsImage {K X Y : Type 0} {R : K → K → Ordering} (f : X → Y) (m : FinMap R X) (k : K) (y : Y) : Type 0 where
  pub x : X
  pub there : get m k ≡ Some x
  pub is : f x ≡ y

pub image_of : {K X Y : Type 0} {R : K → K → Ordering} (f : X → Y) (m : FinMap R X) (k : K) (y : Y) → get (mapped f m) k ≡ Some y → IsImage f m k y
image_of {X = X} f m k y e = by (get m k) refl (sym (get_mapped f m k) ∙ e)
  where
    by : (o : Option X) → get m k ≡ o → option_map f (get m k) ≡ Some y → IsImage f m k y
    by None at h = let none : None ≡ Some y = sym (ap (option_map f) at) ∙ h in cc
    by (Some x) at h = record { x = x; there = at; is = same_Some (f x) y (sym (ap (option_map f) at) ∙ h) }

pub seen : {K X Y : Type 0} {R : K → K → Ordering} (f : X → Y) (m : FinMap R X) (k : K) (o : Option X) → get m k ≡ o → get (mapped f m) k ≡ option_map f o
seen f m k o e = get_mapped f m k ∙ ap (option_map f) e

module _ (verified : TypedProgram) (places : Places) (running_tasks : TasksByActor) (tasks : TasksOf Arg) (rules : RulesOf Arg) (outputs : List Right) (h : RightsFit verified places running_tasks tasks rules outputs) where
  -- a stage changes
  pub fit_staged : (number : ℕ) (r : RuleOf Arg) (parameter : ℕ) (stage : Stage) → get rules number ≡ Some r → RightsFit verified places running_tasks tasks (insert rules number (at_stage r parameter stage)) outputs
  fit_staged number r parameter stage at = record {
    frames = h.frames;
    tasks = h.tasks;
    rules = λ n x there. elim (put_or_before nat_cmp_total nat_cmp-IsAntisymmetric rules number (at_stage r parameter stage) n x there) as (λ _. ArgsMatch places (params_of verified.program x.procedure) x.args) [
      | inl same ↦ subst (λ (y : RuleOf Arg). ArgsMatch places (params_of verified.program y.procedure) y.args) same.1 (h.rules number r at)
      | inr before ↦ h.rules n x before
    ];
    outputs = h.outputs;
  }

  -- a rule becomes a task
  pub fit_released : (number next : ℕ) (r : RuleOf Arg) (kind : Kind) → get rules number ≡ Some r → RightsFit verified places running_tasks (insert tasks next (task_from kind r)) (remove rules number) outputs
  fit_released number next r kind at = record {
    frames = h.frames;
    tasks = λ n x there. elim (put_or_before nat_cmp_total nat_cmp-IsAntisymmetric tasks next (task_from kind r) n x there) as (λ _. ArgsMatch places (params_of verified.program x.procedure) x.args) [
      | inl same ↦ subst (λ (t : TaskOf Arg). ArgsMatch places (params_of verified.program t.procedure) t.args) same.1 (h.rules number r at)
      | inr before ↦ h.tasks n x before
    ];
    rules = λ n x there. h.rules n x (before_removal nat_cmp_total nat_cmp-IsAntisymmetric rules number n x there).1;
    outputs = h.outputs;
  }

  -- a task is put
  pub fit_put : (next : ℕ) (t : TaskOf Arg) → ArgsMatch places (params_of verified.program t.procedure) t.args → RightsFit verified places running_tasks (insert tasks next t) rules outputs
  fit_put next t args = record {
    frames = h.frames;
    tasks = λ n x there. elim (put_or_before nat_cmp_total nat_cmp-IsAntisymmetric tasks next t n x there) as (λ _. ArgsMatch places (params_of verified.program x.procedure) x.args) [
      | inl same ↦ subst (λ (t : TaskOf Arg). ArgsMatch places (params_of verified.program t.procedure) t.args) same.1 args
      | inr before ↦ h.tasks n x before
    ];
    rules = h.rules;
    outputs = h.outputs;
  }

  -- a rule is made
  pub fit_ruled : (next : ℕ) (r : RuleOf Arg) → ArgsMatch places (params_of verified.program r.procedure) r.args → RightsFit verified places running_tasks tasks (insert rules next r) outputs
  fit_ruled next r args = record {
    frames = h.frames;
    tasks = h.tasks;
    rules = λ n x there. elim (put_or_before nat_cmp_total nat_cmp-IsAntisymmetric rules next r n x there) as (λ _. ArgsMatch places (params_of verified.program x.procedure) x.args) [
      | inl same ↦ subst (λ (y : RuleOf Arg). ArgsMatch places (params_of verified.program y.procedure) y.args) same.1 args
      | inr before ↦ h.rules n x before
    ];
    outputs = h.outputs;
  }

  -- a task is taken
  pub fit_without : (number : ℕ) → RightsFit verified places running_tasks (remove tasks number) rules outputs
  fit_without number = record {
    frames = h.frames;
    tasks = λ n x there. h.tasks n x (before_removal nat_cmp_total nat_cmp-IsAntisymmetric tasks number n x there).1;
    rules = h.rules;
    outputs = h.outputs;
  }

  -- a task starts, or moves on
  pub fit_by_actor : (actor : Actor) (f : FrameView) → FrameFits verified places actor f → RightsFit verified places (insert running_tasks actor f) tasks rules outputs
  fit_by_actor actor f fits = record {
    frames = λ a x there. elim (put_or_before actor_cmp_total actor_cmp-IsAntisymmetric running_tasks actor f a x there) as (λ _. FrameFits verified places a x) [
      | inl same ↦ subst (λ b. FrameFits verified places b x) (sym same.0) (subst (FrameFits verified places actor) same.1 fits)
      | inr before ↦ h.frames a x before
    ];
    tasks = h.tasks;
    rules = h.rules;
    outputs = h.outputs;
  }

  -- a task ends
  pub fit_ended : (actor : Actor) → RightsFit verified places (remove running_tasks actor) tasks rules outputs
  fit_ended actor = record {
    frames = λ a x there. h.frames a x (before_removal actor_cmp_total actor_cmp-IsAntisymmetric running_tasks actor a x there).1;
    tasks = h.tasks;
    rules = h.rules;
    outputs = h.outputs;
  }
