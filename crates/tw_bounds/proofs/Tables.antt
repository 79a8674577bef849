-- A row is computed from the rows after it, one lemma for each form of flow.
use Rattle.tw_bounds.proofs.Names.{Begin, Branch, Close, Flow, IsRow, IsSound, Jump, List, None, Option, Row, RowsFrom, Some, Stop, Straight, ap, arith, begun, branch_end, cap, close_end, end_of, get_or, goal_of, greatest_cost, jump_goal, length, length-set, max, min, set, slice_get, slice_get-get_or, stop_outside, straight_end, suc, sym, zero, ℕ, ◌*◌, ◌+◌, ◌<◌, ◌∙◌, ◌≡◌, ◌≤◌}
use Rattle.tw_budget.proofs.Tables.{set_from}
use Rattle.tw_bounds.proofs.GreatestCost.{straight_at, branch_at, jump_at, begin_at, close_at, stop_at}

module _ (cost : ℕ → ℕ) (code : List Flow) where
  pub straight_row : (place : ℕ) (x : Row) → slice_get code place ≡ Some Straight → IsRow cost code (place + 1) x → (n : ℕ) → n ≡ min (cost place + x.greatest_cost) cap → IsRow cost code place (record { greatest_cost = n; end = x.end })
  straight_row place x at r n m = let h = straight_at cost code place at in record { ends = r.ends ∙ sym (straight_end code place at); greatest = omega (arith, m, r.greatest) }

  pub branch_row : (place skip : ℕ) (x y : Row) → slice_get code place ≡ Some (Branch skip) → IsRow cost code (place + 1) x → IsRow cost code (goal_of place skip) y → (n : ℕ) → n ≡ min (cost place + max x.greatest_cost y.greatest_cost) cap → IsRow cost code place (record { greatest_cost = n; end = x.end })
  branch_row place skip x y at r q n m = let h = branch_at cost code place skip at in record { ends = r.ends ∙ sym (branch_end code place skip at); greatest = omega (arith, m, r.greatest, q.greatest) }

  pub jump_row : IsSound code → (place skip : ℕ) (x : Row) → slice_get code place ≡ Some (Jump skip) → IsRow cost code (goal_of place skip) x → (n : ℕ) → n ≡ min (cost place + x.greatest_cost) cap → IsRow cost code place (record { greatest_cost = n; end = x.end })
  jump_row s place skip x at r n m = let h = jump_at cost code place skip at in record { ends = r.ends ∙ (jump_goal code s place skip at).1; greatest = omega (arith, m, r.greatest) }

  pub close_row : (place : ℕ) → slice_get code place ≡ Some Close → (n : ℕ) → n ≡ min (cost place) cap → IsRow cost code place (record { greatest_cost = n; end = Some place })
  close_row place at n m = let h = close_at cost code place at in record { ends = sym (close_end code place at); greatest = omega (arith, m) }

  pub stop_row : IsSound code → (place : ℕ) → slice_get code place ≡ Some Stop → (n : ℕ) → n ≡ min (cost place) cap → IsRow cost code place (record { greatest_cost = n; end = None })
  stop_row s place at n m = let h = stop_at cost code place at in record { ends = sym (stop_outside code s place at); greatest = omega (arith, m) }

  turns_capped : (c k s t a b : ℕ) → a ≡ min s cap → b ≡ min t cap → min (c + suc k * a + b) cap ≡ min (c + suc k * s + t) cap
  turns_capped c k s t a b e f = grind arith

  pub begin_row : IsSound code → (place iterations : ℕ) (x y : Row) (end : ℕ) → slice_get code place ≡ Some (Begin iterations) → IsRow cost code (place + 1) x → x.end ≡ Some end → IsRow cost code (end + 1) y → (n : ℕ) → n ≡ min (cost place + iterations * x.greatest_cost + y.greatest_cost) cap → IsRow cost code place (record { greatest_cost = n; end = y.end })
  begin_row s place zero x y end at r e q n m = absurd (omega (arith, s.iterations place 0 at))
  begin_row s place (suc k) x y end at r e q n m =
      let b = begun code s place (suc k) at in
      let inner : end_of code (place + 1) ≡ Some end = sym r.ends ∙ e in
      let same : b.0 ≡ end = ap (λ (o : Option ℕ). elim o as (λ _. ℕ) [ None ↦ end | Some z ↦ z ]) (sym b.1 ∙ inner) in
      let outer : end_of code place ≡ end_of code (end + 1) = b.5 ∙ ap (λ (z : ℕ). end_of code (z + 1)) same in
      let h = begin_at cost code place (suc k) end at inner (omega (arith, same, b.3)) in
      record {
        ends = q.ends ∙ sym outer;
        greatest = m ∙ turns_capped (cost place) k (greatest_cost cost code (place + 1)) (greatest_cost cost code (end + 1)) x.greatest_cost y.greatest_cost r.greatest q.greatest ∙ ap (λ (z : ℕ). min z cap) (sym h);
      }

  pub known_row : (rows : List Row) (from place : ℕ) (d : Row) → RowsFrom cost code rows from → from ≤ place → place < length rows → IsRow cost code place (get_or rows place d)
  known_row rows from place d known ahead within = known.each place (get_or rows place d) ahead (slice_get-get_or rows place d within)

  pub capped_bound : (place : ℕ) (row : Row) → IsRow cost code place row → row.greatest_cost ≤ cap
  capped_bound place row r = omega (arith, r.greatest)

  -- the table with one row more
  pub rows_more : (rows : List Row) (place : ℕ) (row : Row) → place < length code → RowsFrom cost code rows (place + 1) → IsRow cost code place row → RowsFrom cost code (set rows place row) place
  rows_more rows place row within known r = record {
    long = length-set rows place row ∙ known.long;
    each = set_from (IsRow cost code) rows place row (omega (arith, known.long)) known.each r;
  }

  -- a loop's first place has a later END, and the code continues after it
  pub begun_ends : IsSound code → (place iterations : ℕ) → slice_get code place ≡ Some (Begin iterations) → (x : Row) → IsRow cost code (place + 1) x → (x.end ≡ None → ⊥) × ((end : ℕ) → x.end ≡ Some end → (place < end) × (end + 1 < length code))
  begun_ends s place iterations at x r =
      let b = begun code s place iterations at in
      (λ none. let e = sym none ∙ r.ends ∙ b.1 in cc, λ end e. let same : b.0 ≡ end = ap (λ (o : Option ℕ). elim o as (λ _. ℕ) [ None ↦ end | Some z ↦ z ]) (sym b.1 ∙ sym r.ends ∙ e) in (omega (arith, same, b.3), omega (arith, same, b.4)))
