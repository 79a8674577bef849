use Rattle.tw_bounds.proofs.Names.{Bound, IsBoundable, IsEndless, IsProgram, List, Procedure, false, subst, sym, tasks_alone, true, ◌∙◌, ◌≡◌}
use Rattle.tw_bounds.proofs.Accepting.{is_boundable}
use Rattle.tw_bounds.proofs.Circling.{ends_unless_endless}
use Rattle.tw_bounds.proofs.circles.circle_of_calls.Goals as goal

pub returns-then-not-is_endless-clause-none : goal.returns-then-not-is_endless-clause-none
returns-then-not-is_endless-clause-none c = λ none. ends_unless_endless c.args.verified.now.program tasks_alone c.args.bounds.now.tasks.items c.requires.tasks bounded
  where
    bounded : IsEndless c.args.bounds.now.tasks.items 0 → ⊥
    bounded e = let wrong : false ≡ true = (c.if-not-is_endless.ensures {u = tt}).1 (subst (λ (bounds : List Bound). IsEndless bounds 0) (sym c.deref.ensures.value) e) in cc

pub circle_from_main-requires-clause-boundable : goal.circle_from_main-requires-clause-boundable
circle_from_main-requires-clause-boundable c =
    let same = c.procedures-procedures.ensures.is ∙ c.program-program.ensures.is in
    let within = subst (λ (ps : List Procedure). IsProgram ps) c.program-program.ensures.is c.procedures-procedures.ensures.within in
    subst IsBoundable (sym same) (is_boundable _ _ within c.program-program.ensures.right)
