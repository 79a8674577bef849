-- Changes of the store, and which data have a copied write right.
use Rattle.std.proofs.Common.{◌≡◌, inl, inr, ℕ, ◌<◌, ◌≤◌, Bool, true, ◌||◌, Some, None, sym, ap, subst, ◌∙◌, arith}
use Rattle.tw_determinism.proofs.MachineNames.{Copied, Datum, NestedScalar, Store, added, cases_eq, data_insert_other, data_insert_same, eq-eqb, eq_by_cmp, get, insert, insert_other, insert_same, ne_eqb, new_datum, one_write_more, own_key, same_Some, with_copy}
use Rattle.tw_determinism.proofs.Names.{Name, name_cmp, name_cmp_total, name_cmp-same}
use Rattle.tw_determinism.proofs.CoreEffects.{Cell, Cells, Shared, empty_cell}
use Rattle.tw_determinism.proofs.CoreMachine.{with_share}
use Rattle.tw_determinism.proofs.Persisting.{name_dec, other_name}
use Rattle.tw_determinism.proofs.CellsShown.{name_before, name_here, with_name}
use Rattle.tw_determinism.proofs.Remaining.{Fewer}
use Rattle.tw_determinism.proofs.Showing.{ShowsShared}

none_before : (cells : Cells) (k : Name) (c : Cell) (d : Name) → get (insert cells k c) d ≡ None → get cells d ≡ None
none_before cells k c d e = elim (name_dec d k) [
  | inl same ↦ let there : get (insert cells k c) d ≡ Some c = ap (get (insert cells k c)) same ∙ insert_same name_cmp name_cmp_total cells k c in cc
  | inr other ↦ sym (insert_other name_cmp name_cmp_total name_cmp-same cells k c d other) ∙ e
]

module _ (f : ℕ → Name) (copied : Copied) (start : Bool) (s : Store) (cells : Cells) (shared : Shared) (shows : ShowsShared f copied start s cells shared) where
  -- no datum has more write rights
  pub shared_kept : (t : Store) → Fewer t.live s.live → t.next ≡ s.next → ShowsShared f copied start t cells shared
  shared_kept t fewer next = record {
    below = λ id less. shows.below id (omega (arith, less, next));
    above = λ id more. shows.above id (omega (arith, more, next));
    unmade = shows.unmade;
    few = λ id y at not. let x = fewer.there id y at in let w = shows.few id x.0 x.1 not in let l = x.2 in omega (arith, w, l);
  }

  -- and one content changes
  pub shared_put : (k : Name) (c : Cell) → ShowsShared f copied start s (insert cells k c) shared
  shared_put k c = record { below = shows.below; above = shows.above; unmade = λ d none. shows.unmade d (none_before cells k c d none); few = shows.few }

  pub shared_new : (t : Name) (ty : NestedScalar) → get cells t ≡ None → ShowsShared (with_name f s.next t) copied start (added s (new_datum ty)) (insert cells t (empty_cell ty)) shared
  shared_new t ty none = record {
    below = λ id less. elim (cases_eq id s.next) [
      | inl same ↦ ap shared (ap (with_name f s.next t) same ∙ name_here f s.next t) ∙ shows.unmade t none ∙ sym (shows.above id (omega (arith, same)))
      | inr other ↦ let before : id < s.next = omega (arith, less, other) in ap shared (name_before f s.next t id before) ∙ shows.below id before
    ];
    above = λ id more. shows.above id (omega (arith, more));
    unmade = λ d absent. shows.unmade d (none_before cells t (empty_cell ty) d absent);
    few = λ id x at not. elim (cases_eq id s.next) [
      | inl same ↦
          let x_is : new_datum ty ≡ x = same_Some (new_datum ty) x (sym (data_insert_same s.live s.next (new_datum ty)) ∙ subst (λ k. get (insert s.live s.next (new_datum ty)) k ≡ Some x) same at) in
          subst (λ (z : Datum). z.writes ≤ 1) x_is (omega arith)
      | inr other ↦ shows.few id x (sym (data_insert_other s.live s.next (new_datum ty) id other) ∙ at) not
    ];
  }

  pub shared_copied : (id : ℕ) (x : Datum) (c : Cell) → id < s.next → get cells (f id) ≡ Some c → ((i j : ℕ) → i < s.next → j < s.next → f i ≡ f j → i ≡ j)
      → ShowsShared f (with_copy copied (Some id)) start (record s { live = insert s.live id (one_write_more x) }) cells (with_share shared (Some (f id)))
  shared_copied id x c given there apart = record {
    below = λ j less. elim (cases_eq j id) [
      | inl same ↦ ap (λ b. b || shared (f j)) (ap (λ z. eq_by_cmp name_cmp (f z) (f id)) same ∙ own_key name_cmp_total (f id)) ∙ sym (ap (λ b. b || copied j) (eq-eqb j id same))
      | inr other ↦ ap (λ b. b || shared (f j)) (other_name (f j) (f id) (λ same. other (apart j id less given same))) ∙ shows.below j less ∙ sym (ap (λ b. b || copied j) (ne_eqb j id other))
    ];
    above = λ j more. ap (λ b. b || copied j) (ne_eqb j id (λ e. omega (arith, e, more, given))) ∙ shows.above j more;
    unmade = λ d none. ap (λ b. b || shared d) (other_name d (f id) (λ same. let some : get cells d ≡ Some c = ap (get cells) same ∙ there in cc)) ∙ shows.unmade d none;
    few = λ j y at not. elim (cases_eq j id) [
      | inl same ↦ let yes : with_copy copied (Some id) j ≡ true = ap (λ b. b || copied j) (eq-eqb j id same) in cc
      | inr other ↦ shows.few j y (sym (data_insert_other s.live id (one_write_more x) j other) ∙ at) (sym (ap (λ b. b || copied j) (ne_eqb j id other)) ∙ not)
    ];
  }
