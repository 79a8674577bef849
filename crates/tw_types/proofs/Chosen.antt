-- The best task, and what an engine does next, don't depend on the arguments.
use Rattle.std.proofs.Common.{◌≡◌, ℕ, ◌==◌, ◌&&◌, Bool, true, false, if◌then◌else◌, int_lt, List, [], ◌∷◌, Option, Some, None, refl, ap, ◌∙◌, map as each, option_map}
use Rattle.std.specs.FinMap.{entries}
use Rattle.tw_types.specs.declared.actor.Actor.{Actor}
use Rattle.tw_types.specs.Mapped.{entry_by, mapped, rule_by, task_by}
use Rattle.tw_types.specs.Rule.{RuleOf, RulesOf, ask_or, first_unasked, is_releasable, next_ask, next_ask_of, next_release, next_release_of}
use Rattle.tw_types.specs.Task.{TaskOf, TasksOf, best, best_of, better, is_eligible}
use Rattle.tw_types.proofs.Mapped.{entries_mapped}

module _ {A B : Type 0} (f : A → B) where
  mapped_better : (e : ℕ × TaskOf A) (o : Option (ℕ × TaskOf A)) → better (entry_by (task_by f) e) (option_map (entry_by (task_by f)) o) ≡ entry_by (task_by f) (better e o)
  mapped_better e None = refl
  mapped_better e (Some other) = by (int_lt e.1.priority other.1.priority)
    where
      by : (b : Bool) → (if b then entry_by (task_by f) other else entry_by (task_by f) e) ≡ entry_by (task_by f) (if b then other else e)
      by true = refl
      by false = refl

  mapped_best_of : (actor : Actor) (es : List (ℕ × TaskOf A)) → best_of actor (each (entry_by (task_by f)) es) ≡ option_map (entry_by (task_by f)) (best_of actor es)
  mapped_best_of actor [] = refl
  mapped_best_of actor (e ∷ es) = by (is_eligible actor e.1) (mapped_best_of actor es)
    where
      by : (b : Bool) → best_of actor (each (entry_by (task_by f)) es) ≡ option_map (entry_by (task_by f)) (best_of actor es) → (if b then Some (better (entry_by (task_by f) e) (best_of actor (each (entry_by (task_by f)) es))) else best_of actor (each (entry_by (task_by f)) es)) ≡ option_map (entry_by (task_by f)) (if b then Some (better e (best_of actor es)) else best_of actor es)
      by true rest = ap (λ o. Some (better (entry_by (task_by f) e) o)) rest ∙ ap Some (mapped_better e (best_of actor es))
      by false rest = rest

  pub best_mapped : (actor : Actor) (tasks : TasksOf A) → best actor (mapped (task_by f) tasks) ≡ option_map (entry_by (task_by f)) (best actor tasks)
  unfolding best
  best_mapped actor tasks = ap (best_of actor) (entries_mapped (task_by f) tasks) ∙ mapped_best_of actor (entries tasks)

  mapped_ask_of : (engine : ℕ) (es : List (ℕ × RuleOf A)) → next_ask_of engine (each (entry_by (rule_by f)) es) ≡ next_ask_of engine es
  mapped_ask_of engine [] = refl
  mapped_ask_of engine (e ∷ es) = ap (λ o. if e.1.engine == engine then ask_or e.0 (first_unasked 0 e.1.stages) o else o) (mapped_ask_of engine es)

  pub next_ask_mapped : (engine : ℕ) (rules : RulesOf A) → next_ask engine (mapped (rule_by f) rules) ≡ next_ask engine rules
  unfolding next_ask
  next_ask_mapped engine rules = ap (next_ask_of engine) (entries_mapped (rule_by f) rules) ∙ mapped_ask_of engine (entries rules)

  mapped_release_of : (engine : ℕ) (es : List (ℕ × RuleOf A)) → next_release_of engine (each (entry_by (rule_by f)) es) ≡ next_release_of engine es
  mapped_release_of engine [] = refl
  mapped_release_of engine (e ∷ es) = ap (λ o. if (e.1.engine == engine) && is_releasable e.1 then Some e.0 else o) (mapped_release_of engine es)

  pub next_release_mapped : (engine : ℕ) (rules : RulesOf A) → next_release engine (mapped (rule_by f) rules) ≡ next_release engine rules
  unfolding next_release
  next_release_mapped engine rules = ap (next_release_of engine) (entries_mapped (rule_by f) rules) ∙ mapped_release_of engine (entries rules)
