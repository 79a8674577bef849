-- Changes of the store, and their cells in the core machine.
use Rattle.std.proofs.Common.{◌≡◌, ◌⊎◌, inl, inr, ℕ, ◌+◌, ◌<◌, Bool, true, false, eqb, [], Some, refl, sym, ap, subst, ◌∙◌, arith, if◌then◌else◌}
use Rattle.std.specs.FinMap as fin
use Rattle.tw_determinism.proofs.MachineNames.{Datum, Members, NestedScalar, Store, Subscript, added, cases_eq, data_insert_other, data_insert_same, empty_content, empty_mapped, eq-eqb, get, insert, insert_other, insert_same, is_map, is_scalar, ne_eqb, new_datum, same_Some}
use Rattle.tw_types.specs.Store as store
use Rattle.tw_determinism.proofs.Names.{Name, name_cmp, name_cmp_total, name_cmp-same}
use Rattle.tw_determinism.proofs.CoreEffects.{Cell, Cells, Unset, Contains, empty_cell, map_cell}
use Rattle.tw_determinism.proofs.Persisting.{name_dec}
use Rattle.tw_determinism.proofs.Remaining.{Kept}
use Rattle.tw_determinism.proofs.Showing.{ShowsCells, cell_of}
use Rattle.tw_determinism.proofs.Agreeing.{cell_agrees}

module _ (f : ℕ → Name) (s : Store) (cells : Cells) (shows : ShowsCells f s cells) where
  -- no content changes
  pub shows_kept : (t : Store) → Kept t.live s.live → t.next ≡ s.next → ShowsCells f t cells
  shows_kept t kept next = record {
    live = λ id y at. let x = kept.there id y at in shows.live id x.0 x.1 ∙ ap (λ b. Some (cell_of f b.0 b.1)) (sym x.2);
    used = λ id less. shows.used id (omega (arith, less, next));
    apart = λ i j a b same. shows.apart i j (omega (arith, a, next)) (omega (arith, b, next)) same;
  }

  -- one content changes
  pub shows_put : (id : ℕ) (x y : Datum) (cell : Cell) → get s.live id ≡ Some x → id < s.next → ((d : ℕ) (z : Datum) → get s.live d ≡ Some z → d < s.next) → cell ≡ cell_of f y.ty y.content
      → ShowsCells f (record s { live = insert s.live id y }) (insert cells (f id) cell)
  shows_put id x y cell was given fresh is = record {
    live = λ d z at. elim (cases_eq d id) [
      | inl same ↦
          let z_is : y ≡ z = same_Some y z (sym (data_insert_same s.live id y) ∙ subst (λ k. get (insert s.live id y) k ≡ Some z) same at) in
          ap (λ k. get (insert cells (f id) cell) (f k)) same ∙ insert_same name_cmp name_cmp_total cells (f id) cell ∙ ap Some (is ∙ ap (λ (w : Datum). cell_of f w.ty w.content) z_is)
      | inr other ↦
          let old : get s.live d ≡ Some z = sym (data_insert_other s.live id y d other) ∙ at in
          insert_other name_cmp name_cmp_total name_cmp-same cells (f id) cell (f d) (λ same. other (shows.apart d id (fresh d z old) given same)) ∙ shows.live d z old
    ];
    used = λ d less. elim (shows.used d less) [
      | inl none ↦ inl none
      | inr c ↦ elim (name_dec (f d) (f id)) [
        | inl same ↦ inr (cell, ap (get (insert cells (f id) cell)) same ∙ insert_same name_cmp name_cmp_total cells (f id) cell)
        | inr other ↦ inr (c.0, insert_other name_cmp name_cmp_total name_cmp-same cells (f id) cell (f d) other ∙ c.1)
      ]
    ];
    apart = shows.apart;
  }

-- ---- a new datum

-- the name of one id more
abbrev pub with_name : (ℕ → Name) → ℕ → Name → ℕ → Name
with_name f id t d = if eqb d id then t else f d

pub name_here : (f : ℕ → Name) (id : ℕ) (t : Name) → with_name f id t id ≡ t
name_here f id t = ap (λ b. if b then t else f id) (eq-eqb id id refl)

pub name_before : (f : ℕ → Name) (id : ℕ) (t : Name) (d : ℕ) → d < id → with_name f id t d ≡ f d
name_before f id t d less = ap (λ b. if b then t else f d) (ne_eqb d id (λ e. omega arith))

pub new_cell_is : (g : ℕ → Name) (ty : NestedScalar) → cell_of g ty (empty_content ty) ≡ empty_cell ty
new_cell_is g ty = by (is_scalar ty) (is_map ty)
  where
    by : (b c : Bool) → cell_of g ty (if b then store.Unset else if c then store.Maps fin.empty else store.Contains fin.empty) ≡ (if b then Unset else if c then map_cell ty fin.empty else Contains fin.empty)
    by true c = refl
    by false true = refl
    by false false = ap Contains (empty_mapped g)

module _ (f : ℕ → Name) (s : Store) (cells : Cells) (shows : ShowsCells f s cells) (t : Name) where
  g : ℕ → Name
  g = with_name f s.next t

  pub shows_new : (ty : NestedScalar) → ((c : Cell) → get cells t ≡ Some c → ⊥) → (t ≡ [] → ⊥) → ((d : ℕ) (z : Datum) → get s.live d ≡ Some z → d < s.next)
      → ((d : ℕ) (z : Datum) (members : Members) (at : Subscript) (id : ℕ) → get s.live d ≡ Some z → z.content ≡ store.Contains members → get members at ≡ Some id → id < s.next)
      → ShowsCells (with_name f s.next t) (added s (new_datum ty)) (insert cells t (empty_cell ty))
  unfolding g
  shows_new ty new some fresh inside = record { live = live; used = used; apart = apart }
    where
      -- an old name is another
      old_name : (d : ℕ) → d < s.next → f d ≡ t → ⊥
      old_name d less same = elim (shows.used d less) [
        | inl none ↦ some (sym same ∙ none)
        | inr c ↦ new c.0 (subst (λ z. get cells z ≡ Some c.0) same c.1)
      ]

      live : (d : ℕ) (z : Datum) → get (insert s.live s.next (new_datum ty)) d ≡ Some z → get (insert cells t (empty_cell ty)) (with_name f s.next t d) ≡ Some (cell_of (with_name f s.next t) z.ty z.content)
      live d z at = elim (cases_eq d s.next) [
        | inl same ↦
            let z_is : new_datum ty ≡ z = same_Some (new_datum ty) z (sym (data_insert_same s.live s.next (new_datum ty)) ∙ subst (λ k. get (insert s.live s.next (new_datum ty)) k ≡ Some z) same at) in
            ap (λ k. get (insert cells t (empty_cell ty)) (with_name f s.next t k)) same ∙ ap (get (insert cells t (empty_cell ty))) (name_here f s.next t) ∙ insert_same name_cmp name_cmp_total cells t (empty_cell ty)
            ∙ ap Some (sym (new_cell_is (with_name f s.next t) ty) ∙ ap (λ (w : Datum). cell_of (with_name f s.next t) w.ty w.content) z_is)
        | inr other ↦
            let old : get s.live d ≡ Some z = sym (data_insert_other s.live s.next (new_datum ty) d other) ∙ at in
            let less = fresh d z old in
            ap (get (insert cells t (empty_cell ty))) (name_before f s.next t d less)
            ∙ insert_other name_cmp name_cmp_total name_cmp-same cells t (empty_cell ty) (f d) (old_name d less) ∙ shows.live d z old
            ∙ ap Some (sym (cell_agrees f (with_name f s.next t) z.ty z.content (λ members at id is there. name_before f s.next t id (inside d z members at id old is there))))
      ]

      used : (d : ℕ) → d < s.next + 1 → (with_name f s.next t d ≡ []) ⊎ ((c : Cell) × (get (insert cells t (empty_cell ty)) (with_name f s.next t d) ≡ Some c))
      used d less = elim (cases_eq d s.next) [
        | inl same ↦ inr (empty_cell ty, ap (λ k. get (insert cells t (empty_cell ty)) (with_name f s.next t k)) same ∙ ap (get (insert cells t (empty_cell ty))) (name_here f s.next t) ∙ insert_same name_cmp name_cmp_total cells t (empty_cell ty))
        | inr other ↦
            let before : d < s.next = omega arith in
            elim (shows.used d before) [
              | inl none ↦ inl (name_before f s.next t d before ∙ none)
              | inr c ↦ inr (c.0, ap (get (insert cells t (empty_cell ty))) (name_before f s.next t d before) ∙ insert_other name_cmp name_cmp_total name_cmp-same cells t (empty_cell ty) (f d) (old_name d before) ∙ c.1)
            ]
      ]

      apart : (i j : ℕ) → i < s.next + 1 → j < s.next + 1 → with_name f s.next t i ≡ with_name f s.next t j → i ≡ j
      apart i j a b same = elim (cases_eq i s.next) [
        | inl i_is ↦ elim (cases_eq j s.next) [
          | inl j_is ↦ i_is ∙ sym j_is
          | inr j_old ↦
              let less : j < s.next = omega arith in
              absurd (old_name j less (sym (name_before f s.next t j less) ∙ sym same ∙ ap (with_name f s.next t) i_is ∙ name_here f s.next t))
        ]
        | inr i_old ↦
            let i_less : i < s.next = omega arith in
            elim (cases_eq j s.next) [
              | inl j_is ↦ absurd (old_name i i_less (sym (name_before f s.next t i i_less) ∙ same ∙ ap (with_name f s.next t) j_is ∙ name_here f s.next t))
              | inr j_old ↦
                  let j_less : j < s.next = omega arith in
                  shows.apart i j i_less j_less (sym (name_before f s.next t i i_less) ∙ same ∙ name_before f s.next t j j_less)
            ]
      ]
