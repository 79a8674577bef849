-- From one state of the core machine to a later one data stay, and their contents grow; what is closed stays as it is.
use Rattle.std.proofs.Common.{◌≡◌, inl, inr, ℕ, zero, suc, List, Option, Some, None, refl, sym, ap, subst, ◌∙◌}
use Rattle.tw_determinism.proofs.MachineNames.{HasEach, HasSumOfEach, Procedure, Subscript, Value, Values, get, insert, insert_other, insert_same, option_and_then, same_Some, sum_with, value_cmp, value_cmp-IsAntisymmetric, value_cmp_total}
use Rattle.tw_determinism.proofs.Names.{Name, name_cmp, name_cmp-same, name_cmp_total}
use Rattle.tw_determinism.proofs.CoreEffects.{Cell, Unset, Set, Contains, Maps, Sums, MemberNames, Writing, SetTo, Put, PutValue, Add, Net, IsClosed, next_name, put_if_free, value_if_free, written}
use Rattle.tw_determinism.proofs.CoreMachine.{Edit, Leaves, Adds, Changes, Steps, Path, IsMade, edited, edit_of}
use Rattle.tw_determinism.proofs.Growing.{made_kept}
use Rattle.tw_determinism.proofs.Options.{some_first, some_mapped}
use Rattle.tw_determinism.proofs.Persisting.{closed_kept, name_dec, new_cell}
use Rattle.tw_determinism.proofs.Swapping.{subscript_dec}

-- ---- contents

abbrev IsSetOrNot : Cell → Type 0
IsSetOrNot Unset = Unit {0}
IsSetOrNot (Set y) = Unit {0}
IsSetOrNot (Contains others) = ⊥
IsSetOrNot (Maps others) = ⊥
IsSetOrNot (Sums others) = ⊥

abbrev HasMembers : MemberNames → Cell → Type 0
HasMembers members Unset = ⊥
HasMembers members (Set y) = ⊥
HasMembers members (Contains others) = (at : Subscript) (d : Name) → get members at ≡ Some d → get others at ≡ Some d
HasMembers members (Maps others) = ⊥
HasMembers members (Sums others) = ⊥

abbrev HasValues : Values → Cell → Type 0
HasValues values Unset = ⊥
HasValues values (Set y) = ⊥
HasValues values (Contains others) = ⊥
HasValues values (Maps others) = HasEach values others
HasValues values (Sums others) = ⊥

abbrev HasSums : Values → Cell → Type 0
HasSums values Unset = ⊥
HasSums values (Set y) = ⊥
HasSums values (Contains others) = ⊥
HasSums values (Maps others) = ⊥
HasSums values (Sums others) = HasSumOfEach values others

-- the second has all of the first; a sum may have grown
abbrev pub IsWithin : Cell → Cell → Type 0
IsWithin Unset c = IsSetOrNot c
IsWithin (Set x) c = c ≡ Set x
IsWithin (Contains members) c = HasMembers members c
IsWithin (Maps values) c = HasValues values c
IsWithin (Sums values) c = HasSums values c

within_itself : (c : Cell) → IsWithin c c
within_itself Unset = tt
within_itself (Set x) = refl
within_itself (Contains members) = λ at d e. e
within_itself (Maps values) = λ at x e. e
within_itself (Sums values) = λ at x e. (x, e)

within_after : (a b c : Cell) → IsWithin a b → IsWithin b c → IsWithin a c
within_after Unset Unset c h k = k
within_after Unset (Set y) c h k = subst (IsWithin Unset) (sym k) tt
within_after Unset (Contains others) c h k = absurd h
within_after Unset (Maps others) c h k = absurd h
within_after Unset (Sums others) c h k = absurd h
within_after (Set x) b c h k = subst (λ z. IsWithin z c) h k
within_after (Contains members) Unset c h k = absurd h
within_after (Contains members) (Set y) c h k = absurd h
within_after (Contains members) (Maps others) c h k = absurd h
within_after (Contains members) (Sums others) c h k = absurd h
within_after (Contains members) (Contains others) Unset h k = absurd k
within_after (Contains members) (Contains others) (Set z) h k = absurd k
within_after (Contains members) (Contains others) (Maps z) h k = absurd k
within_after (Contains members) (Contains others) (Sums z) h k = absurd k
within_after (Contains members) (Contains others) (Contains more) h k = λ at d e. k at d (h at d e)
within_after (Maps values) Unset c h k = absurd h
within_after (Maps values) (Set y) c h k = absurd h
within_after (Maps values) (Contains others) c h k = absurd h
within_after (Maps values) (Sums others) c h k = absurd h
within_after (Maps values) (Maps others) Unset h k = absurd k
within_after (Maps values) (Maps others) (Set z) h k = absurd k
within_after (Maps values) (Maps others) (Contains z) h k = absurd k
within_after (Maps values) (Maps others) (Sums z) h k = absurd k
within_after (Maps values) (Maps others) (Maps more) h k = λ at x e. k at x (h at x e)
within_after (Sums values) Unset c h k = absurd h
within_after (Sums values) (Set y) c h k = absurd h
within_after (Sums values) (Contains others) c h k = absurd h
within_after (Sums values) (Maps others) c h k = absurd h
within_after (Sums values) (Sums others) Unset h k = absurd k
within_after (Sums values) (Sums others) (Set z) h k = absurd k
within_after (Sums values) (Sums others) (Contains z) h k = absurd k
within_after (Sums values) (Sums others) (Maps z) h k = absurd k
within_after (Sums values) (Sums others) (Sums more) h k = λ at x e. let y = h at x e in k at y.0 y.1

written_within : (w : Writing) (c b : Cell) → written w c ≡ Some b → IsWithin c b
written_within (SetTo x) Unset b e = subst (IsWithin Unset) (same_Some (Set x) b e) tt
written_within (SetTo x) (Set y) b e = cc
written_within (SetTo x) (Contains members) b e = cc
written_within (SetTo x) (Maps values) b e = cc
written_within (SetTo x) (Sums values) b e = cc
written_within (Put at d) (Maps values) b e = cc
written_within (Put at d) (Sums values) b e = cc
written_within (Put at d) Unset b e = cc
written_within (Put at d) (Set y) b e = cc
written_within (Put at d) (Contains members) b e = by (get members at) refl e
  where
    by : (o : Option Name) → get members at ≡ o → put_if_free members at d o ≡ Some b → IsWithin (Contains members) b
    by (Some other) was e = cc
    by None was e = subst (IsWithin (Contains members)) (same_Some (Contains (insert members at d)) b e)
        (λ q x is. insert_other value_cmp value_cmp_total value_cmp-IsAntisymmetric members at d q (λ same. let there : get members at ≡ Some x = subst (λ z. get members z ≡ Some x) same is in cc) ∙ is)
written_within (PutValue at x) Unset b e = cc
written_within (PutValue at x) (Set y) b e = cc
written_within (PutValue at x) (Contains members) b e = cc
written_within (PutValue at x) (Sums values) b e = cc
written_within (PutValue at x) (Maps values) b e = by (get values at) refl e
  where
    by : (o : Option Value) → get values at ≡ o → value_if_free values at x o ≡ Some b → IsWithin (Maps values) b
    by (Some other) was e = cc
    by None was e = subst (IsWithin (Maps values)) (same_Some (Maps (insert values at x)) b e)
        (λ q y is. insert_other value_cmp value_cmp_total value_cmp-IsAntisymmetric values at x q (λ same. let there : get values at ≡ Some y = subst (λ z. get values z ≡ Some y) same is in cc) ∙ is)
written_within (Add at n) Unset b e = cc
written_within (Add at n) (Set y) b e = cc
written_within (Add at n) (Contains members) b e = cc
written_within (Add at n) (Maps values) b e = cc
written_within (Add at n) (Sums values) b e = subst (IsWithin (Sums values)) (same_Some (Sums (insert values at sum)) b e) (λ q y is. elim (subscript_dec q at) [
  | inl same ↦ (sum, ap (get (insert values at sum)) same ∙ insert_same value_cmp value_cmp_total values at sum)
  | inr other ↦ (y, insert_other value_cmp value_cmp_total value_cmp-IsAntisymmetric values at sum q other ∙ is)
])
  where
    sum : Value
    sum = sum_with (get values at) n

-- ---- states

pub record IsLater (m n : Net) : Type 0 where
  pub cells : (d : Name) (c : Cell) → get m.cells d ≡ Some c → (b : Cell) × (get n.cells d ≡ Some b) × IsWithin c b
  pub closed : (d : Name) (c : IsClosed m d) → (b : IsClosed n d) × (b.cell ≡ c.cell)

pub later_itself : (m : Net) → IsLater m m
later_itself m = record { cells = λ d c at. (c, at, within_itself c); closed = λ d c. (c, refl) }

pub later_after : (l m n : Net) → IsLater l m → IsLater m n → IsLater l n
later_after l m n one two = record {
  cells = λ d c at. let b = one.cells d c at in let a = two.cells d b.0 b.1 in (a.0, a.1, within_after c b.0 a.0 b.2 a.2);
  closed = λ d c. let b = one.closed d c in let a = two.closed d b.0 in (a.0, a.1 ∙ b.1);
}

-- ---- a step

module _ (program : List Procedure) (m n : Net) (is_made : IsMade m) (t : Name) (step : Steps program m t n) where
  cell_later : (d : Name) (c : Cell) → get m.cells d ≡ Some c → (edit : Edit) → edited m.cells (next_name t step.wills.thread) edit ≡ Some n.cells → (b : Cell) × (get n.cells d ≡ Some b) × IsWithin c b
  cell_later d c at Leaves e = (c, subst (λ z. get z d ≡ Some c) (same_Some m.cells n.cells e) at, within_itself c)
  cell_later d c at (Adds new) e = (
    c,
    subst (λ z. get z d ≡ Some c) (same_Some _ n.cells e)
        (insert_other name_cmp name_cmp_total name_cmp-same m.cells (next_name t step.wills.thread) new d (λ same. new_cell program m is_made t step.wills c (subst (λ z. get m.cells z ≡ Some c) same at)) ∙ at),
    within_itself c,
  )
  cell_later d c at (Changes b w) e =
      let a = some_mapped (option_and_then (written w) (get m.cells b)) (insert m.cells b) n.cells e in
      let f = some_first (get m.cells b) (written w) a.0 a.1 in
      elim (name_dec d b) [
        | inl same ↦
            let found : f.0 ≡ c = same_Some f.0 c (sym f.1 ∙ ap (get m.cells) (sym same) ∙ at) in (
              a.0,
              subst (λ z. get z d ≡ Some a.0) a.2 (ap (get (insert m.cells b a.0)) same ∙ insert_same name_cmp name_cmp_total m.cells b a.0),
              written_within w c a.0 (subst (λ z. written w z ≡ Some a.0) found f.2),
            )
        | inr other ↦ (c, subst (λ z. get z d ≡ Some c) a.2 (insert_other name_cmp name_cmp_total name_cmp-same m.cells b a.0 d other ∙ at), within_itself c)
      ]

  pub step_later : IsLater m n
  step_later = record {
    cells = λ d c at. cell_later d c at (edit_of step.wills.effect.act) step.cells;
    closed = λ d c. let k = closed_kept program m n is_made t step d c in (record { cell = c.cell; there = k.0; shut = k.1 }, refl);
  }

pub path_later : (program : List Procedure) (k : ℕ) (m n : Net) → IsMade m → Path program k m n → IsLater m n
path_later program zero m n made path = subst (IsLater m) path (later_itself m)
path_later program (suc k) m n made path = later_after m path.1 n (step_later program m path.1 made path.0 path.2) (path_later program k path.1 n (made_kept program m path.1 made path.0 path.2) path.3)

pub path_made : (program : List Procedure) (k : ℕ) (m n : Net) → IsMade m → Path program k m n → IsMade n
path_made program zero m n made path = subst IsMade path made
path_made program (suc k) m n made path = path_made program k path.1 n (made_kept program m path.1 made path.0 path.2) path.3
