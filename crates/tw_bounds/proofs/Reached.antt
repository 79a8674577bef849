-- Some walk costs what is computed, and none costs more.
use Rattle.tw_bounds.proofs.Names.{Begin, Bool, Branch, Close, Completed, Flow, IsGreatestCost, IsSound, IsWalk, Jump, List, Loop, LoopsFit, None, Option, Rest, Skipped, Some, Stop, Straight, Way, [], ap, arith, begun, branch_end, branch_goal, cases_lt, close_end, cost_of, end_of, false, fits_next, goal_of, greatest_cost, inl, inr, jump_goal, leb, leb-false, leb-true, length, moved, next_close, not_last, refl, slice_get, start_outside, step_of, stop_outside, straight_end, subst, suc, sym, there, true, zero, ℕ, ◌*◌, ◌+◌, ◌<◌, ◌∙◌, ◌∷◌, ◌≡◌, ◌≤◌, ◌⊎◌}
use Rattle.tw_bounds.proofs.GreatestCost.{straight_at, branch_at, jump_at, begin_at, close_at, stop_at, left, pays}

module _ (cost : ℕ → ℕ) (code : List Flow) (s : IsSound code) where
  -- ---- some walk costs so much

  -- the rest from the END on costs this much; without an END nothing, and no loop is begun
  abbrev Tail : Option ℕ → List Loop → ℕ → Type 0
  Tail None loops n = (n ≡ 0) × (loops ≡ [])
  Tail (Some end) loops n = (places : List ℕ) × Rest code end loops places × (cost_of cost places ≡ n)

  record Reaches (place : ℕ) (end : Option ℕ) (t : ℕ) : Type 0 where
    by : (loops : List Loop) (n : ℕ) → Tail end loops n → (places : List ℕ) × Rest code place loops places × (cost place + cost_of cost places ≡ t + n)

  -- one step, with the loops as they are
  reaches_on : (place q : ℕ) (i : Flow) (way : Way) (end : Option ℕ) (t : ℕ) → slice_get code place ≡ Some i → ((loops : List Loop) → moved way place loops i ≡ Some (record { place = q; loops = loops })) → Reaches q end t → Reaches place end (cost place + t)
  reaches_on place q i way end t at goes r = record {
    by = λ loops n tail. let rest = r.by loops n tail in (q ∷ rest.0, (way, loops, step_of code place i way loops at ∙ goes loops, rest.1), omega (arith, rest.2));
  }

  reaches_turns : (first end t : ℕ) → slice_get code end ≡ Some Close → Reaches first (Some end) t → (k : ℕ) (loops : List Loop) (qs : List ℕ) → Rest code (end + 1) loops qs
      → (ps : List ℕ) × Rest code first (record { first = first; left = suc k } ∷ loops) ps × (cost first + cost_of cost ps ≡ suc k * t + (cost (end + 1) + cost_of cost qs))
  reaches_turns first end t at reach zero loops qs r =
      let turn = reach.by (record { first = first; left = 1 } ∷ loops) (cost (end + 1) + cost_of cost qs) ((end + 1) ∷ qs, (Completed, loops, next_close code end first 1 loops at, r), refl) in
      (turn.0, turn.1, omega (arith, turn.2))
  reaches_turns first end t at reach (suc k) loops qs r =
      let rest = reaches_turns first end t at reach k loops qs r in
      let turn = reach.by (record { first = first; left = suc (suc k) } ∷ loops) (cost first + cost_of cost rest.0) (first ∷ rest.0, (Completed, record { first = first; left = suc k } ∷ loops, next_close code end first (suc (suc k)) loops at, rest.1), refl) in
      (turn.0, turn.1, omega (arith, turn.2, rest.2))

  abbrev Here : ℕ → Type 0
  Here place = Reaches place (end_of code place) (greatest_cost cost code place)

  -- as another place of the same loops
  same_loops : (place q t : ℕ) → end_of code q ≡ end_of code place → Reaches q (end_of code q) t → Reaches q (end_of code place) t
  same_loops place q t e r = subst (λ (o : Option ℕ). Reaches q o t) e r

  so_much : (place t : ℕ) → t ≡ greatest_cost cost code place → Reaches place (end_of code place) t → Here place
  so_much place t e r = subst (λ (n : ℕ). Reaches place (end_of code place) n) e r

  reaches_here : (place : ℕ) (i : Flow) → slice_get code place ≡ Some i → ((k : ℕ) → place < k → k < length code → Here k) → Here place
  reaches_here place Straight at far =
      let x = far (place + 1) (omega arith) (not_last code s place Straight at refl) in
      so_much place _ (sym (straight_at cost code place at)) (reaches_on place (place + 1) Straight Completed _ _ at (λ loops. refl) (same_loops place (place + 1) _ (sym (straight_end code place at)) x))
  reaches_here place (Branch skip) at far = by (leb (greatest_cost cost code (place + 1)) (greatest_cost cost code (goal_of place skip))) refl
    where
      by : (b : Bool) → leb (greatest_cost cost code (place + 1)) (greatest_cost cost code (goal_of place skip)) ≡ b → Here place
      by true e =
          let le = leb-true _ _ e in
          let h = branch_at cost code place skip at in
          let goal = branch_goal code s place skip at in
          let x = far (goal_of place skip) (omega arith) goal.0 in
          so_much place (cost place + greatest_cost cost code (goal_of place skip)) (omega arith) (reaches_on place (goal_of place skip) (Branch skip) Skipped _ _ at (λ loops. refl) (same_loops place (goal_of place skip) _ goal.1 x))
      by false e =
          let le = leb-false _ _ e in
          let h = branch_at cost code place skip at in
          let x = far (place + 1) (omega arith) (not_last code s place (Branch skip) at refl) in
          so_much place (cost place + greatest_cost cost code (place + 1)) (omega arith) (reaches_on place (place + 1) (Branch skip) Completed _ _ at (λ loops. refl) (same_loops place (place + 1) _ (sym (branch_end code place skip at)) x))
  reaches_here place (Jump skip) at far =
      let goal = jump_goal code s place skip at in
      let x = far (goal_of place skip) (omega arith) goal.0 in
      so_much place _ (sym (jump_at cost code place skip at)) (reaches_on place (goal_of place skip) (Jump skip) Completed _ _ at (λ loops. refl) (same_loops place (goal_of place skip) _ goal.1 x))
  reaches_here place (Begin zero) at far = absurd (omega (arith, s.iterations place 0 at))
  reaches_here place (Begin (suc k)) at far =
      let b = begun code s place (suc k) at in
      let x = far (place + 1) (omega arith) (not_last code s place (Begin (suc k)) at refl) in
      let y = far (b.0 + 1) (omega (arith, b.3)) b.4 in
      let turn : Reaches (place + 1) (Some b.0) (greatest_cost cost code (place + 1)) = subst (λ (o : Option ℕ). Reaches (place + 1) o (greatest_cost cost code (place + 1))) b.1 x in
      let out : Reaches (b.0 + 1) (end_of code place) (greatest_cost cost code (b.0 + 1)) = same_loops place (b.0 + 1) _ (sym b.5) y in
      so_much place _ (sym (begin_at cost code place (suc k) b.0 at b.1 b.3)) (record {
        by = λ loops n tail.
            let rest = out.by loops n tail in
            let all = reaches_turns (place + 1) b.0 (greatest_cost cost code (place + 1)) b.2 turn k loops rest.0 rest.1 in
            ((place + 1) ∷ all.0, (Completed, record { first = place + 1; left = suc k } ∷ loops, step_of code place (Begin (suc k)) Completed loops at, all.1), omega (arith, all.2, rest.2));
      })
  reaches_here place Close at far =
      so_much place _ (sym (close_at cost code place at)) (subst (λ (o : Option ℕ). Reaches place o (cost place)) (sym (close_end code place at)) (record { by = λ loops n tail. (tail.0, tail.1, omega (arith, tail.2)) }))
  reaches_here place Stop at far =
      so_much place _ (sym (stop_at cost code place at)) (subst (λ (o : Option ℕ). Reaches place o (cost place)) (sym (stop_outside code s place at)) (record { by = λ loops n tail. ([], (at, tail.1), omega (arith, tail.0)) }))

  reaches_from : (d place : ℕ) → length code ≤ place + d → (k : ℕ) → place ≤ k → k < length code → Here k
  reaches_from zero place h k ahead inside = absurd (omega arith)
  reaches_from (suc d) place h k ahead inside = cases (λ j f g. reaches_from d (place + 1) (omega arith) j f g) (cases_lt place k)
    where
      cases : ((j : ℕ) → place + 1 ≤ j → j < length code → Here j) → ((place < k) ⊎ (k ≤ place)) → Here k
      cases known (inl far) = known k (omega arith) inside
      cases known (inr near) = let i = there code k inside in reaches_here k i.0 i.1 (λ j f g. known j (omega arith) g)

  some_walk : (walk : List ℕ) × IsWalk code walk × (cost_of cost walk ≡ greatest_cost cost code 0)
  some_walk =
      let first : Reaches 0 (end_of code 0) (greatest_cost cost code 0) = reaches_from (length code) 0 (omega arith) 0 (omega arith) s.long in
      let r = (subst (λ (o : Option ℕ). Reaches 0 o (greatest_cost cost code 0)) (start_outside code s) first).by [] 0 (refl, refl) in
      (0 ∷ r.0, (refl, r.1), omega (arith, r.2))

  -- ---- and none costs more

  rest_within : (places : List ℕ) (place : ℕ) (loops : List Loop) → place < length code → LoopsFit code place loops → Rest code place loops places → cost place + cost_of cost places ≤ left cost code place loops
  rest_within [] place loops inside f r =
      let h = stop_at cost code place r.0 in
      let e : left cost code place [] ≡ left cost code place loops = ap (λ (l : List Loop). left cost code place l) (sym r.1) in
      omega arith
  rest_within (p ∷ places) place loops inside f r =
      let i = there code place inside in
      let e = sym (step_of code place i.0 r.0 loops i.1) ∙ r.2 in
      let st = fits_next code s place i.0 loops r.0 _ i.1 f e in
      let on = rest_within places p r.1 st.0 st.1 r.3 in
      let h = pays cost code s place i.0 loops r.0 _ i.1 f e in
      omega arith

  -- the number computed from the first place is the cost of the most expensive walk
  pub is_greatest_cost : IsGreatestCost code cost (greatest_cost cost code 0)
  is_greatest_cost = record { some = some_walk; most = most }
    where
      most : (walk : List ℕ) → IsWalk code walk → cost_of cost walk ≤ greatest_cost cost code 0
      most [] w = absurd w
      most (p ∷ places) w =
          let r = subst (λ (n : ℕ). Rest code n [] places) w.0 w.1 in
          let c : cost p ≡ cost 0 = ap cost w.0 in
          omega (arith, c, rest_within places 0 [] s.long (start_outside code s) r)

  -- and there is no other
  pub greatest_is : (n : ℕ) → IsGreatestCost code cost n → greatest_cost cost code 0 ≡ n
  greatest_is n d =
      let up = d.most some_walk.0 some_walk.1 in
      let down = is_greatest_cost.most d.some.0 d.some.1 in
      omega (arith, up, down, some_walk.2, d.some.2)
