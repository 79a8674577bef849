-- Losing reads: each datum that is left keeps its subscribers, and is closed if it was.
use Rattle.std.proofs.Common.{◌≡◌, ℕ, zero, suc, ◌-◌, ◌==◌, if◌then◌else◌, List, [], ◌∷◌, fold, Option, Some, None, refl, sym, ap, subst, ◌∙◌, inl, inr}
use Rattle.std.proofs.lemmas.Bool.{cases_eq, cases_Bool}
use Rattle.std.proofs.lemmas.Option.{same_Some}
use Rattle.std.specs.FinMap.{get, insert, remove}
use Rattle.tw_types.specs.Store.{Datum, Data, members_of, is_unheld, is_closed, settled_by, settled, read_taken_by, drop_read_within}
use Rattle.tw_types.proofs.Freeing.{data_insert_same, data_insert_other, data_remove_same, data_remove_other}

-- ---- each datum that is left

abbrev pub IsKept : Option Datum → Datum → Type 0
IsKept None y = ⊥
IsKept (Some x) y = (y.subscribers ≡ x.subscribers) × (is_closed y ≡ is_closed x)

kept_itself : (o : Option Datum) (y : Datum) → o ≡ Some y → IsKept o y
kept_itself o y e = subst (λ z. IsKept z y) (sym e) (refl, refl)

kept_step : (o u : Option Datum) (y : Datum) → IsKept u y → ((x : Datum) → u ≡ Some x → IsKept o x) → IsKept o y
kept_step o None y h k = absurd h
kept_step None (Some x) y h k = absurd (k x refl)
kept_step (Some w) (Some x) y h k = let j = k x refl in (h.0 ∙ j.0, h.1 ∙ j.1)

abbrev pub KeepsEach : (Data → ℕ → Data) → Type 0
KeepsEach f = (m : Data) (id d : ℕ) (y : Datum) → get (f m id) d ≡ Some y → IsKept (get m d) y

each_kept : (f : Data → ℕ → Data) → KeepsEach f → (ids : List ℕ) (m : Data) (d : ℕ) (y : Datum) → get (fold f m ids) d ≡ Some y → IsKept (get m d) y
each_kept f k [] m d y e = kept_itself (get m d) y e
each_kept f k (id ∷ ids) m d y e = kept_step (get m d) (get (f m id) d) y (each_kept f k ids (f m id) d y e) (λ x g. k m id d x g)

-- a datum that was put, with all that is freed by it, against the datum before
settled_by_kept : (f : Data → ℕ → Data) → KeepsEach f → (m : Data) (id : ℕ) (z : Datum) (d : ℕ) (y : Datum) → get (settled_by f m id z) d ≡ Some y → IsKept (get (insert m id z) d) y
settled_by_kept f k m id z d y e = elim (cases_Bool (is_unheld z)) [
  | inl go ↦
      let freed : get (fold f (remove m id) (members_of z.content)) d ≡ Some y = ap (λ b. get (if b then fold f (remove m id) (members_of z.content) else insert m id z) d) (sym go) ∙ e in
      kept_step (get (insert m id z) d) (get (remove m id) d) y (each_kept f k (members_of z.content) (remove m id) d y freed) (λ x g. at x g)
  | inr stay ↦
      let there : get (insert m id z) d ≡ Some y = ap (λ b. get (if b then fold f (remove m id) (members_of z.content) else insert m id z) d) (sym stay) ∙ e in
      kept_itself (get (insert m id z) d) y there
]
  where
    at : (x : Datum) → get (remove m id) d ≡ Some x → IsKept (get (insert m id z) d) x
    at x g = elim (cases_eq d id) [
      | inl same ↦ let none : None ≡ Some x = sym (data_remove_same m id) ∙ ap (get (remove m id)) (sym same) ∙ g in cc
      | inr other ↦ kept_itself (get (insert m id z) d) x (data_insert_other m id z d other ∙ sym (data_remove_other m id d other) ∙ g)
    ]

-- a datum that replaces one like it
pub put_kept : (m : Data) (id : ℕ) (x z : Datum) (d : ℕ) (y : Datum) → get m id ≡ Some x → (z.subscribers ≡ x.subscribers) × (is_closed z ≡ is_closed x) → get (insert m id z) d ≡ Some y → IsKept (get m d) y
put_kept m id x z d y is alike e = elim (cases_eq d id) [
  | inl same ↦
      let y_is : z ≡ y = same_Some z y (sym (data_insert_same m id z) ∙ ap (get (insert m id z)) (sym same) ∙ e) in
      subst (λ o. IsKept o y) (sym (ap (get m) same ∙ is)) (ap (λ (w : Datum). w.subscribers) (sym y_is) ∙ alike.0, ap is_closed (sym y_is) ∙ alike.1)
  | inr other ↦ kept_itself (get m d) y (sym (data_insert_other m id z d other) ∙ e)
]

taken_kept : (f : Data → ℕ → Data) → KeepsEach f → (m : Data) (id : ℕ) (o : Option Datum) (d : ℕ) (y : Datum) → get m id ≡ o → get (read_taken_by f m id o) d ≡ Some y → IsKept (get m d) y
taken_kept f k m id None d y is e = kept_itself (get m d) y e
taken_kept f k m id (Some x) d y is e = elim (cases_Bool (x.reads == 0)) [
  | inl none ↦ kept_itself (get m d) y (ap (λ b. get (if b then m else settled_by f m id (record x { reads = x.reads - 1 })) d) (sym none) ∙ e)
  | inr some ↦
      let freed : get (settled_by f m id (record x { reads = x.reads - 1 })) d ≡ Some y = ap (λ b. get (if b then m else settled_by f m id (record x { reads = x.reads - 1 })) d) (sym some) ∙ e in
      kept_step (get m d) (get (insert m id (record x { reads = x.reads - 1 })) d) y (settled_by_kept f k m id (record x { reads = x.reads - 1 }) d y freed) (λ w g. put_kept m id x (record x { reads = x.reads - 1 }) d w is (refl, refl) g)
]

nothing : Data → ℕ → Data
nothing m id = m

nothing_kept : KeepsEach nothing
unfolding nothing
nothing_kept m id d y e = kept_itself (get m d) y e

-- one read less, with all that is freed by it
pub within_kept : (depth : ℕ) → KeepsEach (drop_read_within depth)
unfolding nothing
within_kept zero m id d y e = taken_kept nothing nothing_kept m id (get m id) d y refl e
within_kept (suc depth) m id d y e = taken_kept (drop_read_within depth) (within_kept depth) m id (get m id) d y refl e

pub settled_kept : (m : Data) (id : ℕ) (z : Datum) (d : ℕ) (y : Datum) → get (settled m id z) d ≡ Some y → IsKept (get (insert m id z) d) y
settled_kept m id z d y e = settled_by_kept (drop_read_within 2) (within_kept 2) m id z d y e
