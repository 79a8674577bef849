-- The greatest cost of a path from a place to the END of its own loop, computed from the code's end. Also the budget that a task
-- has left, which pays for each move.
use Rattle.tw_bounds.proofs.Names.{Begin, Branch, Close, Completed, Cursor, Flow, IsSound, Jump, List, Loop, LoopsFit, Option, Skipped, Some, Stop, Straight, Way, [], after_loop, ap, arith, begun, branch_end, branch_goal, by_flow, close_end, drop, drop_at, end_of, goal_of, greatest_cost, greatest_cost_in, jump_goal, max, moved, refl, same_cursor, slice_get, straight_end, subst, suc, sym, turned, unwrap_or, with_last, zero, ℕ, ◌*◌, ◌+◌, ◌-◌, ◌<◌, ◌∙◌, ◌∷◌, ◌≡◌, ◌≤◌}

shifted : (cost : ℕ → ℕ) (b : ℕ) (code : List Flow) (j k : ℕ) → greatest_cost_in cost b code (j + k) ≡ greatest_cost_in cost (b + j) (drop j code) k
shifted cost b code zero k =
    let e : b ≡ b + 0 = omega arith in
    let f : 0 + k ≡ k = omega arith in
    ap (λ (n : ℕ). greatest_cost_in cost b code n) f ∙ ap (λ (n : ℕ). greatest_cost_in cost n code k) e
shifted cost b [] (suc j) k = refl
shifted cost b (i ∷ rest) (suc j) k =
    let e : b + 1 + j ≡ b + suc j = omega arith in
    let f : suc j + k ≡ suc (j + k) = omega arith in
    ap (λ (n : ℕ). greatest_cost_in cost b (i ∷ rest) n) f ∙ shifted cost (b + 1) rest j k ∙ ap (λ (n : ℕ). greatest_cost_in cost n (drop j rest) k) e

-- further on, from the next place
on_at : (cost : ℕ → ℕ) (code : List Flow) (place k goal : ℕ) → goal ≡ place + 1 + k → greatest_cost_in cost (place + 1) (drop (place + 1) code) k ≡ greatest_cost cost code goal
on_at cost code place k goal e =
    let f : place + 1 ≡ 0 + (place + 1) = omega arith in
    ap (λ (n : ℕ). greatest_cost_in cost n (drop (place + 1) code) k) f ∙ sym (shifted cost 0 code (place + 1) k) ∙ ap (λ (n : ℕ). greatest_cost cost code n) (sym e)

at_flow : (cost : ℕ → ℕ) (code : List Flow) (place : ℕ) (i : Flow) → slice_get code place ≡ Some i → greatest_cost cost code place ≡ by_flow (cost place) place (drop (place + 1) code) (greatest_cost_in cost (place + 1) (drop (place + 1) code)) i
at_flow cost code place i at =
    let f : place ≡ place + 0 = omega arith in
    let g : 0 + place ≡ place = omega arith in
    ap (λ (n : ℕ). greatest_cost cost code n) f ∙ shifted cost 0 code place 0 ∙ ap (λ (n : ℕ). greatest_cost_in cost n (drop place code) 0) g
    ∙ ap (λ (xs : List Flow). greatest_cost_in cost place xs 0) (drop_at code place i at)

pub straight_at : (cost : ℕ → ℕ) (code : List Flow) (place : ℕ) → slice_get code place ≡ Some Straight → greatest_cost cost code place ≡ cost place + greatest_cost cost code (place + 1)
straight_at cost code place at = let h = at_flow cost code place Straight at in let o = on_at cost code place 0 (place + 1) (omega arith) in omega arith

pub branch_at : (cost : ℕ → ℕ) (code : List Flow) (place skip : ℕ) → slice_get code place ≡ Some (Branch skip) → greatest_cost cost code place ≡ cost place + max (greatest_cost cost code (place + 1)) (greatest_cost cost code (goal_of place skip))
branch_at cost code place skip at =
    let h = at_flow cost code place (Branch skip) at in
    let o = on_at cost code place 0 (place + 1) (omega arith) in
    let q = on_at cost code place skip (goal_of place skip) refl in
    omega arith

pub jump_at : (cost : ℕ → ℕ) (code : List Flow) (place skip : ℕ) → slice_get code place ≡ Some (Jump skip) → greatest_cost cost code place ≡ cost place + greatest_cost cost code (goal_of place skip)
jump_at cost code place skip at = let h = at_flow cost code place (Jump skip) at in let q = on_at cost code place skip (goal_of place skip) refl in omega arith

pub begin_at : (cost : ℕ → ℕ) (code : List Flow) (place iterations end : ℕ) → slice_get code place ≡ Some (Begin iterations) → end_of code (place + 1) ≡ Some end → place < end → greatest_cost cost code place ≡ cost place + iterations * greatest_cost cost code (place + 1) + greatest_cost cost code (end + 1)
begin_at cost code place iterations end at e ahead =
    let h = at_flow cost code place (Begin iterations) at in
    let o = on_at cost code place 0 (place + 1) (omega arith) in
    let q = on_at cost code place (end - place) (end + 1) (omega arith) in
    let b = ap (λ (u : Option ℕ). after_loop place (greatest_cost_in cost (place + 1) (drop (place + 1) code)) u) e in
    h ∙ ap (λ (n : ℕ). cost place + iterations * greatest_cost_in cost (place + 1) (drop (place + 1) code) 0 + n) (b ∙ q) ∙ ap (λ (n : ℕ). cost place + iterations * n + greatest_cost cost code (end + 1)) o

pub close_at : (cost : ℕ → ℕ) (code : List Flow) (place : ℕ) → slice_get code place ≡ Some Close → greatest_cost cost code place ≡ cost place
close_at cost code place at = at_flow cost code place Close at

pub stop_at : (cost : ℕ → ℕ) (code : List Flow) (place : ℕ) → slice_get code place ≡ Some Stop → greatest_cost cost code place ≡ cost place
stop_at cost code place at = at_flow cost code place Stop at

-- ---- the rest of a task

-- iterations of a loop after the one that is begun
abbrev pub further : ℕ → ℕ → ℕ
further zero turn = 0
further (suc k) turn = k * turn

-- to the END of the inner loop, the iterations that are left of it, and what is left after it
abbrev pub left : (ℕ → ℕ) → List Flow → ℕ → List Loop → ℕ
left cost code place [] = greatest_cost cost code place
left cost code place (inner ∷ outer) = greatest_cost cost code place + further inner.left (greatest_cost cost code inner.first) + left cost code (unwrap_or (end_of code place) 0 + 1) outer

-- a last iteration leaves no more
pub left_last : (cost : ℕ → ℕ) (code : List Flow) (place : ℕ) (loops : List Loop) → left cost code place (with_last loops) ≤ left cost code place loops
left_last cost code place [] = omega arith
left_last cost code place (inner ∷ outer) = omega arith

-- if a place's path continues through another one in the same loops
through : (cost : ℕ → ℕ) (code : List Flow) (p q c : ℕ) (loops : List Loop) → end_of code p ≡ end_of code q → c + greatest_cost cost code q ≤ greatest_cost cost code p → c + left cost code q loops ≤ left cost code p loops
through cost code p q c [] same h = h
through cost code p q c (inner ∷ outer) same h =
    let e : left cost code (unwrap_or (end_of code p) 0 + 1) outer ≡ left cost code (unwrap_or (end_of code q) 0 + 1) outer = ap (λ (o : Option ℕ). left cost code (unwrap_or o 0 + 1) outer) same in
    omega arith

abbrev Pays : (ℕ → ℕ) → List Flow → ℕ → List Loop → Cursor → Type 0
Pays cost code place loops to = cost place + left cost code to.place to.loops ≤ left cost code place loops

moves_to : (cost : ℕ → ℕ) (code : List Flow) (place : ℕ) (loops : List Loop) (s t : Cursor) → Some s ≡ Some t → Pays cost code place loops s → Pays cost code place loops t
moves_to cost code place loops s t e h = subst (λ (u : Cursor). Pays cost code place loops u) (same_cursor s t e) h

-- each move pays for its place
pub pays : (cost : ℕ → ℕ) (code : List Flow) → IsSound code → (place : ℕ) (i : Flow) (loops : List Loop) (way : Way) (to : Cursor) → slice_get code place ≡ Some i → LoopsFit code place loops → moved way place loops i ≡ Some to → Pays cost code place loops to
pays cost code s place Straight loops Completed to at f e =
    let h = straight_at cost code place at in
    moves_to cost code place loops _ to e (through cost code place (place + 1) (cost place) loops (straight_end code place at) (omega arith))
pays cost code s place Straight loops Skipped to at f e = cc
pays cost code s place (Branch skip) loops Completed to at f e =
    let h = branch_at cost code place skip at in
    moves_to cost code place loops _ to e (through cost code place (place + 1) (cost place) loops (branch_end code place skip at) (omega arith))
pays cost code s place (Branch skip) loops Skipped to at f e =
    let h = branch_at cost code place skip at in
    moves_to cost code place loops _ to e (through cost code place (goal_of place skip) (cost place) loops (sym (branch_goal code s place skip at).1) (omega arith))
pays cost code s place (Jump skip) loops Completed to at f e =
    let h = jump_at cost code place skip at in
    moves_to cost code place loops _ to e (through cost code place (goal_of place skip) (cost place) loops (sym (jump_goal code s place skip at).1) (omega arith))
pays cost code s place (Jump skip) loops Skipped to at f e = cc
pays cost code s place (Begin zero) loops Completed to at f e = absurd (omega (arith, s.iterations place 0 at))
pays cost code s place (Begin (suc k)) loops Completed to at f e =
    let b = begun code s place (suc k) at in
    let h = begin_at cost code place (suc k) b.0 at b.1 b.3 in
    let d = greatest_cost cost code (place + 1) in
    let t = through cost code place (b.0 + 1) (cost place + suc k * d) loops b.5 (omega arith) in
    let same : left cost code (unwrap_or (end_of code (place + 1)) 0 + 1) loops ≡ left cost code (b.0 + 1) loops = ap (λ (o : Option ℕ). left cost code (unwrap_or o 0 + 1) loops) b.1 in
    moves_to cost code place loops _ to e (omega arith)
pays cost code s place (Begin iterations) loops Skipped to at f e = cc
pays cost code s place Close [] Completed to at f e = cc
pays cost code s place Close (inner ∷ outer) Completed to at f e = ended inner.first inner.left f.0 f.1 f.2 f.3 e
  where
    ended : (first iterations end : ℕ) → end_of code place ≡ Some end → end_of code first ≡ Some end → 0 < iterations → Some (turned place first iterations outer) ≡ Some to
        → cost place + left cost code to.place to.loops ≤ greatest_cost cost code place + further iterations (greatest_cost cost code first) + left cost code (unwrap_or (end_of code place) 0 + 1) outer
    ended first zero end g h b e = absurd (omega arith)
    ended first (suc zero) end g h b e =
        let here : left cost code (unwrap_or (end_of code place) 0 + 1) outer ≡ left cost code (place + 1) outer = ap (λ (o : Option ℕ). left cost code (unwrap_or o 0 + 1) outer) (close_end code place at) in
        let there = close_at cost code place at in
        let to_is : left cost code (place + 1) outer ≡ left cost code to.place to.loops = ap (λ (u : Cursor). left cost code u.place u.loops) (same_cursor _ to e) in
        omega arith
    ended first (suc (suc k)) end g h b e =
        let there = close_at cost code place at in
        let to_is : left cost code first (record { first = first; left = suc k } ∷ outer) ≡ left cost code to.place to.loops = ap (λ (u : Cursor). left cost code u.place u.loops) (same_cursor _ to e) in
        let ends : left cost code (unwrap_or (end_of code place) 0 + 1) outer ≡ left cost code (unwrap_or (end_of code first) 0 + 1) outer = ap (λ (o : Option ℕ). left cost code (unwrap_or o 0 + 1) outer) (g ∙ sym h) in
        omega arith
pays cost code s place Close loops Skipped to at f e = cc
pays cost code s place Stop loops Completed to at f e = cc
pays cost code s place Stop loops Skipped to at f e = cc
