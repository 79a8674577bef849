-- A loop whose iterations end earlier: no rest of a walk gets longer.
use Rattle.tw_budget.proofs.Names.{Begin, Branch, Close, Completed, Cursor, Flow, IsSound, IsWithinBudget, Jump, List, Loop, LoopsFit, None, Option, Reaches, Rest, Skipped, Some, Stop, Straight, Way, [], ap, arith, end_of, goal_of, length, moved, next, refl, slice_get, subst, suc, sym, turned, with_last, zero, ℕ, ◌*◌, ◌++◌, ◌+◌, ◌<◌, ◌∙◌, ◌∷◌, ◌≡◌, ◌≤◌}
use Rattle.tw_budget.proofs.Lengths.{same_cursor, step_of, next_close, reaches_turns, there, longest_at}
use Rattle.tw_budget.proofs.Places.{close_end, end_within}
use Rattle.tw_budget.proofs.FrameTheorems.{fits_next}

abbrev at_place : ℕ → List Loop → Cursor
at_place place loops = record { place = place; loops = loops }

abbrev loop : ℕ → ℕ → Loop
loop first left = record { first = first; left = left }

-- loops around which are an inner one, and others outside
abbrev around : List Loop → Loop → List Loop → List Loop
around above inner outer = above ++ inner ∷ outer

-- a move that doesn't end the inner loop is the same with another one in its place
abbrev Likewise : Way → ℕ → List Loop → Loop → Loop → List Loop → Flow → Cursor → Type 0
Likewise way place above short whole outer i to =
    (p : ℕ) × (inside : List Loop) × (at_place p (around inside short outer) ≡ to) × (moved way place (around above whole outer) i ≡ Some (at_place p (around inside whole outer)))

module _ (place : ℕ) (short whole : Loop) (outer : List Loop) (to : Cursor) where
  turns_likewise : (first left : ℕ) (above : List Loop) → Some (turned place first left (around above short outer)) ≡ Some to
      → (p : ℕ) × (inside : List Loop) × (at_place p (around inside short outer) ≡ to) × (Some (turned place first left (around above whole outer)) ≡ Some (at_place p (around inside whole outer)))
  turns_likewise first zero above e = (place + 1, above, same_cursor _ to e, refl)
  turns_likewise first (suc zero) above e = (place + 1, above, same_cursor _ to e, refl)
  turns_likewise first (suc (suc left)) above e = (first, loop first (suc left) ∷ above, same_cursor _ to e, refl)

  likewise : (way : Way) (i : Flow) (above : List Loop) → (i ≡ Close → above ≡ [] → ⊥) → moved way place (around above short outer) i ≡ Some to → Likewise way place above short whole outer i to
  likewise Completed Straight above other e = (place + 1, above, same_cursor _ to e, refl)
  likewise Skipped Straight above other e = cc
  likewise Completed (Branch skip) above other e = (place + 1, above, same_cursor _ to e, refl)
  likewise Skipped (Branch skip) above other e = (goal_of place skip, above, same_cursor _ to e, refl)
  likewise Completed (Jump skip) above other e = (goal_of place skip, above, same_cursor _ to e, refl)
  likewise Skipped (Jump skip) above other e = cc
  likewise Completed (Begin iterations) above other e = (place + 1, loop (place + 1) iterations ∷ above, same_cursor _ to e, refl)
  likewise Skipped (Begin iterations) above other e = cc
  likewise Completed Close [] other e = absurd (other refl refl)
  likewise Completed Close (x ∷ above) other e = turns_likewise x.first x.left above e
  likewise Skipped Close above other e = cc
  likewise Completed Stop above other e = cc
  likewise Skipped Stop above other e = cc

no_loops : (above : List Loop) (inner : Loop) (outer : List Loop) → around above inner outer ≡ [] → ⊥
no_loops [] inner outer e = cc
no_loops (x ∷ above) inner outer e = cc

module _ (code : List Flow) (s : IsSound code) where
  -- at the END of the inner loop
  ended : (place first left : ℕ) (outer : List Loop) → slice_get code place ≡ Some Close → LoopsFit code place (loop first left ∷ outer) → (ps : List ℕ) → Rest code (place + 1) outer ps
      → (qs : List ℕ) × Rest code place (loop first left ∷ outer) qs × (suc (length ps) ≤ length qs)
  ended place first zero outer here f ps r = absurd (omega (arith, f.3))
  ended place first (suc zero) outer here f ps r = ((place + 1) ∷ ps, (Completed, outer, next_close code place first 1 outer here, r), omega arith)
  ended place first (suc (suc k)) outer here f ps r =
      let same : place ≡ f.0 = ap (λ (o : Option ℕ). elim o as (λ _. ℕ) [ None ↦ place | Some n ↦ n ]) (sym (close_end code place here) ∙ f.1) in
      let end = end_within code first f.0 f.2 in
      let longest = longest_at code s first (omega (arith, end.1, end.2)) in
      let reach = subst (λ (o : Option ℕ). Reaches code first o longest.0) f.2 longest.1.reaches in
      let turns = reaches_turns code first f.0 longest.0 end.0 reach k outer ps (subst (λ (n : ℕ). Rest code (n + 1) outer ps) same r) in
      (first ∷ turns.0, (Completed, loop first (suc k) ∷ outer, next_close code place first (suc (suc k)) outer here, turns.1), omega (arith, turns.2))

  module _ (first left : ℕ) (outer : List Loop) where
    abbrev Longer : ℕ → List Loop → List ℕ → Type 0
    Longer place above ps = (qs : List ℕ) × Rest code place (around above (loop first left) outer) qs × (length ps ≤ length qs)

    longer : (ps : List ℕ) (place : ℕ) (above : List Loop) → place < length code → LoopsFit code place (around above (loop first left) outer) → Rest code place (around above (loop first 1) outer) ps → Longer place above ps
    longer [] place above inside f r = absurd (no_loops above (loop first 1) outer r.1)
    longer (p ∷ ps) place above inside f r = let i = there code place inside in each (λ q over h g e. longer ps q over h g e) i.0 above i.1 f r
      where
        goes_on : ((q : ℕ) (over : List Loop) → q < length code → LoopsFit code q (around over (loop first left) outer) → Rest code q (around over (loop first 1) outer) ps → Longer q over ps) → (i : Flow) (over : List Loop) → (i ≡ Close → over ≡ [] → ⊥) → slice_get code place ≡ Some i → LoopsFit code place (around over (loop first left) outer) → Rest code place (around over (loop first 1) outer) (p ∷ ps) → Longer place over (p ∷ ps)
        goes_on known i over other here g q =
            let e : moved q.0 place (around over (loop first 1) outer) i ≡ Some (at_place p q.1) = sym (step_of code place i q.0 (around over (loop first 1) outer) here) ∙ q.2 in
            let m = likewise place (loop first 1) (loop first left) outer (at_place p q.1) q.0 i over other e in
            let fits = fits_next code s place i (around over (loop first left) outer) q.0 (at_place m.0 (around m.1 (loop first left) outer)) here g m.3 in
            let rest : Rest code m.0 (around m.1 (loop first 1) outer) ps = subst (λ (c : Cursor). Rest code c.place c.loops ps) (sym m.2) q.3 in
            let more = known m.0 m.1 fits.0 fits.1 rest in
            (m.0 ∷ more.0, (q.0, around m.1 (loop first left) outer, step_of code place i q.0 (around over (loop first left) outer) here ∙ m.3, more.1), omega (arith, more.2))

        ends : slice_get code place ≡ Some Close → LoopsFit code place (loop first left ∷ outer) → (way : Way) (found : List Loop) → next code way place (loop first 1 ∷ outer) ≡ Some (at_place p found) → Rest code p found ps → Longer place [] (p ∷ ps)
        ends here g Completed found e q =
            let to : at_place p found ≡ at_place (place + 1) outer = same_cursor _ _ (sym e ∙ next_close code place first 1 outer here) in
            ended place first left outer here g ps (subst (λ (c : Cursor). Rest code c.place c.loops ps) to q)
        ends here g Skipped found e q =
            let never : None ≡ Some (at_place p found) = sym (step_of code place Close Skipped (loop first 1 ∷ outer) here) ∙ e in
            cc

        each : ((q : ℕ) (over : List Loop) → q < length code → LoopsFit code q (around over (loop first left) outer) → Rest code q (around over (loop first 1) outer) ps → Longer q over ps) → (i : Flow) (over : List Loop) → slice_get code place ≡ Some i → LoopsFit code place (around over (loop first left) outer) → Rest code place (around over (loop first 1) outer) (p ∷ ps) → Longer place over (p ∷ ps)
        each known Straight over here g q = goes_on known Straight over (λ e d. cc) here g q
        each known (Branch skip) over here g q = goes_on known (Branch skip) over (λ e d. cc) here g q
        each known (Jump skip) over here g q = goes_on known (Jump skip) over (λ e d. cc) here g q
        each known (Begin iterations) over here g q = goes_on known (Begin iterations) over (λ e d. cc) here g q
        each known Close [] here g q = ends here g q.0 q.1 q.2 q.3
        each known Close (x ∷ over) here g q = goes_on known Close (x ∷ over) (λ e d. cc) here g q
        each known Stop over here g q = goes_on known Stop over (λ e d. cc) here g q

-- a last iteration is one that is left
pub fits_last : (code : List Flow) (place : ℕ) (loops : List Loop) → LoopsFit code place loops → LoopsFit code place (with_last loops)
fits_last code place [] f = f
fits_last code place (inner ∷ outer) f = (f.0, f.1, f.2, omega arith, f.4)

-- a frame whose innermost loop gets its last iteration stays within its budget
pub shortens_within : (code : List Flow) → IsSound code → (budget spent place : ℕ) (loops : List Loop) → IsWithinBudget code budget spent place loops → IsWithinBudget code budget spent place (with_last loops)
shortens_within code s budget spent place [] w = w
shortens_within code s budget spent place (inner ∷ outer) w =
    record {
      inside = w.inside;
      fits = fits_last code place (inner ∷ outer) w.fits;
      rest = λ places r. let more = longer code s inner.first inner.left outer places place [] w.inside w.fits r in omega (arith, more.2, w.rest more.0 more.1);
    }
