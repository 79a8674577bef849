-- Facts on a right register, and the result of an instruction that changes one datum.
use Rattle.std.proofs.Common.{◌≡◌, ℕ, zero, suc, ◌+◌, ◌<◌, ◌≤◌, true, false, [], ◌∷◌, slice_get, slice_set, Option, Some, None, refl, ap, subst, ◌∙◌, arith, inl, inr}
use Rattle.tw_soundness.proofs.MachineNames.{Balanced, Context, Datum, HaveWriters, Holds, IsTypedStore, RightFits, RightType, Rights, RightsFit, Store, Typing, balanced_some, cases_Bool, depth_of, drop_read_within, get, held_is_there, hits_same, inside, is_closed, is_closed_mode, is_write, over, read_by, right_at, settled, write_by}
use Rattle.tw_soundness.proofs.Aging.{Aged, Later, Freed, drops, settled_balanced, nested_later}

-- ---- all registers

pub over-set : (by : Option RightType → Option ℕ → ℕ) (typing : Typing) (rights : Rights) (k : ℕ) (t u : Option RightType) (r s : Option ℕ) → slice_get typing k ≡ Some t → slice_get rights k ≡ Some r
    → over by (slice_set typing k u) (slice_set rights k s) + by t r ≡ over by typing rights + by u s
over-set by [] rights k t u r s a b = cc
over-set by (t₀ ∷ typing) [] k t u r s a b = cc
over-set by (t₀ ∷ typing) (r₀ ∷ rights) zero t u r s a b = let p : t₀ ≡ t = cc in let q : r₀ ≡ r = cc in rw (p, q) (omega arith)
over-set by (t₀ ∷ typing) (r₀ ∷ rights) (suc k) t u r s a b = let h = over-set by typing rights k t u r s a b in omega arith

pub rights_set : (m : Store) (typing : Typing) (rights : Rights) (k : ℕ) (u : Option RightType) (s : Option ℕ) → RightsFit m typing rights → RightFits m u s → RightsFit m (slice_set typing k u) (slice_set rights k s)
rights_set m [] [] k u s f g = f
rights_set m [] (r ∷ rights) k u s f g = absurd f
rights_set m (t ∷ typing) [] k u s f g = absurd f
rights_set m (t ∷ typing) (r ∷ rights) zero u s f g = (g, f.1)
rights_set m (t ∷ typing) (r ∷ rights) (suc k) u s f g = (f.0, rights_set m typing rights k u s f.1 g)

pub rights_kept : (m n : Store) (typing : Typing) (rights : Rights) → ((p : RightType) (id : ℕ) → Holds m p id → Holds n p id) → RightsFit m typing rights → RightsFit n typing rights
rights_kept m n [] [] h f = f
rights_kept m n [] (r ∷ rights) h f = f
rights_kept m n (t ∷ typing) [] h f = f
rights_kept m n (t ∷ typing) (r ∷ rights) h f = (fit t r f.0, rights_kept m n typing rights h f.1)
  where
    fit : (t : Option RightType) (r : Option ℕ) → RightFits m t r → RightFits n t r
    fit None None f = f
    fit None (Some id) f = f
    fit (Some p) None f = f
    fit (Some p) (Some id) f = h p id f

-- the sum without what a register held
pub emptied : (by : Option RightType → Option ℕ → ℕ) (typing : Typing) (rights : Rights) (k : ℕ) (p : RightType) (id : ℕ) → by None None ≡ 0 → slice_get typing k ≡ Some (Some p) → slice_get rights k ≡ Some (Some id)
    → over by (slice_set typing k None) (slice_set rights k None) + by (Some p) (Some id) ≡ over by typing rights
emptied by typing rights k p id none a b = let h = over-set by typing rights k (Some p) None (Some id) None a b in omega arith

-- ---- one register

-- if the typing has a right, the register has an id
pub record Found (m : Store) (rights : Rights) (typing : Typing) (k : ℕ) (p : RightType) : Type 0 where
  pub id : ℕ
  pub typed : slice_get typing k ≡ Some (Some p)
  pub register : slice_get rights k ≡ Some (Some id)
  pub holds : Holds m p id

pub found : (m : Store) (rights : Rights) (typing : Typing) (k : ℕ) (p : RightType) → RightsFit m typing rights → right_at typing k ≡ Some p → Found m rights typing k p
found m rights [] k p f e = cc
found m [] (t ∷ typing) k p f e = absurd f
found m (Some id ∷ rights) (Some q ∷ typing) zero p f e = let same : q ≡ p = cc in record { id = id; typed = ap (λ z. Some (Some z)) same; register = refl; holds = subst (λ z. Holds m z id) same f.0 }
found m (None ∷ rights) (Some q ∷ typing) zero p f e = absurd f.0
found m (r ∷ rights) (None ∷ typing) zero p f e = cc
found m (r ∷ rights) (t ∷ typing) (suc k) p f e =
    let h = found m rights typing k p f.1 e in
    record { id = h.id; typed = h.typed; register = h.register; holds = h.holds }

-- ---- a context

-- it fits a typing, when others hold r reads and w writes
pub record Fits (typing : Typing) (c : Context) (r w : ℕ → ℕ) : Type 0 where
  pub balanced : Balanced c.store.live (λ d. over (read_by d) typing c.rights + r d) (λ d. over (write_by d) typing c.rights + w d)
  pub writers : HaveWriters c.store.live
  pub store : IsTypedStore c.store
  pub rights : RightsFit c.store typing c.rights

-- a datum that had its id before keeps its type, and stays closed
pub record Undisturbed (s t : Store) : Type 0 where
  pub next : s.next ≤ t.next
  pub kept : (d : ℕ) (y : Datum) → d < s.next → get t.live d ≡ Some y → (x : Datum) × (get s.live d ≡ Some x) × (y.ty ≡ x.ty) × (is_closed x ≡ true → is_closed y ≡ true)

pub later_undisturbed : (s t : Store) → Later t.live s.live → t.next ≡ s.next → Undisturbed s t
later_undisturbed s t l next = record { next = omega arith; kept = λ d y given at. let p = l.there d y at in (p.0, p.1, p.2.ty, p.2.closed) }

pub undisturbed_itself : (s : Store) → Undisturbed s s
undisturbed_itself s = record { next = omega arith; kept = λ d y given at. (y, at, refl, λ c. c) }

pub undisturbed_after : (s t u : Store) → Undisturbed s t → Undisturbed t u → Undisturbed s u
undisturbed_after s t u a b = record {
  next = (let x = a.next in let y = b.next in omega arith);
  kept = λ d y given at.
      let older = b.kept d y (let x = a.next in omega arith) at in
      let oldest = a.kept d older.0 given older.1 in
      (oldest.0, oldest.1, older.2 ∙ oldest.2, λ c. older.3 (oldest.3 c));
}

pub holds_undisturbed : (s t : Store) → Undisturbed s t → (p : RightType) (id : ℕ) → Holds s p id → Holds t p id
holds_undisturbed s t u p id h = record {
  given = (let a = h.given in let b = u.next in omega arith);
  ty = λ y at. let q = u.kept id y h.given at in q.2 ∙ h.ty q.0 q.1;
  closed = λ y at c. let q = u.kept id y h.given at in q.3 (h.closed q.0 q.1 c);
}

pub later_store : (s t : Store) → Later t.live s.live → t.next ≡ s.next → IsTypedStore s → IsTypedStore t
later_store s t l next h = record {
  contents = λ d z at. let p = l.there d z at in p.2.content (h.contents d p.0 p.1);
  nested = nested_later t.live s.live l h.nested;
  fresh = λ d z at. let p = l.there d z at in let lt = h.fresh d p.0 p.1 in rw next lt;
}

-- the effect of changing one datum
pub record Settles (typing : Typing) (old : Context) (r w : ℕ → ℕ) (new : Context) : Type 0 where
  pub fits : Fits typing new r w
  pub others : Undisturbed old.store new.store

-- one datum x becomes y, and the registers change
pub aged_context : (ts us : Typing) (k l : Context) (r w : ℕ → ℕ) (id : ℕ) (x y : Datum) → Fits ts k r w → get k.store.live id ≡ Some x → Aged x y
    → ((d : ℕ) → (d ≡ id → ⊥) → (over (read_by d) us l.rights ≡ over (read_by d) ts k.rights) × (over (write_by d) us l.rights ≡ over (write_by d) ts k.rights))
    → y.reads ≡ inside k.store.live id + (over (read_by id) us l.rights + r id) → y.writes ≡ over (write_by id) us l.rights + w id
    → l.store.live ≡ settled k.store.live id y → l.store.next ≡ k.store.next
    → RightsFit k.store us l.rights
    → Settles us k r w l
aged_context ts us k l r w id x y fits is aged other reads writes live next fit =
    let m = k.store.live in
    let shallow : depth_of x.ty ≤ 3 = fits.store.nested.types id x is in
    let done : Freed (settled m id y) m (λ d. over (read_by d) us l.rights + r d) (λ d. over (write_by d) us l.rights + w d) =
    settled_balanced 3 (drop_read_within 2) (drops 2) m id x y _ _ _ _ fits.store.nested is fits.balanced shallow aged (λ d h. (ap (λ n. n + r d) (other d h).0, ap (λ n. n + w d) (other d h).1)) reads writes in
    let free : Freed l.store.live m (λ d. over (read_by d) us l.rights + r d) (λ d. over (write_by d) us l.rights + w d) = rw live done in
    let others = later_undisturbed k.store l.store free.later next in
    record {
      fits = record {
        balanced = free.balanced;
        writers = λ d z at. let p = free.later.there d z at in p.2.writers (fits.writers d p.0 p.1);
        store = later_store k.store l.store free.later next fits.store;
        rights = rights_kept k.store l.store us l.rights (holds_undisturbed k.store l.store others) fit;
      };
      others = others;
    }

-- a register that has a right: the id, and the datum as it is
pub record At (ts : Typing) (k : Context) (r w : ℕ → ℕ) (d : ℕ) (p : RightType) : Type 0 where
  pub id : ℕ
  pub x : Datum
  pub typed : slice_get ts d ≡ Some (Some p)
  pub register : slice_get k.rights d ≡ Some (Some id)
  pub live : get k.store.live id ≡ Some x
  pub ty : x.ty ≡ p.ty
  pub closed : is_closed_mode p.mode ≡ true → is_closed x ≡ true
  pub reads : x.reads ≡ inside k.store.live id + (over (read_by id) ts k.rights + r id)
  pub writes : x.writes ≡ over (write_by id) ts k.rights + w id
  pub has_read : is_write p.mode ≡ false → 0 < over (read_by id) ts k.rights
  pub has_write : is_write p.mode ≡ true → 0 < over (write_by id) ts k.rights

pub at_right : (d : ℕ) (ts : Typing) (k : Context) (r w : ℕ → ℕ) (p : RightType) → Fits ts k r w → right_at ts d ≡ Some p → At ts k r w d p
at_right d ts k r w p fits at = located d ts k r w p fits (found k.store k.rights ts d p fits.rights at)
  where
    hit_read : (ts : Typing) (rights : Rights) (d : ℕ) (p : RightType) (id : ℕ) → slice_get ts d ≡ Some (Some p) → slice_get rights d ≡ Some (Some id) → is_write p.mode ≡ false → 0 < over (read_by id) ts rights
    hit_read ts rights d p id a b reads =
        let h = emptied (read_by id) ts rights d p id refl a b in
        let one : read_by id (Some p) (Some id) ≡ 1 = rw reads (hits_same id) in
        omega arith

    hit_write : (ts : Typing) (rights : Rights) (d : ℕ) (p : RightType) (id : ℕ) → slice_get ts d ≡ Some (Some p) → slice_get rights d ≡ Some (Some id) → is_write p.mode ≡ true → 0 < over (write_by id) ts rights
    hit_write ts rights d p id a b writes =
        let h = emptied (write_by id) ts rights d p id refl a b in
        let one : write_by id (Some p) (Some id) ≡ 1 = rw writes (hits_same id) in
        omega arith

    some_hit : (ts : Typing) (rights : Rights) (d : ℕ) (p : RightType) (id : ℕ) → slice_get ts d ≡ Some (Some p) → slice_get rights d ≡ Some (Some id) → 0 < over (read_by id) ts rights + over (write_by id) ts rights
    some_hit ts rights d p id a b = elim (cases_Bool (is_write p.mode)) [ inl y ↦ let h = hit_write ts rights d p id a b y in omega arith | inr n ↦ let h = hit_read ts rights d p id a b n in omega arith ]

    filled : (d : ℕ) (ts : Typing) (k : Context) (r w : ℕ → ℕ) (p : RightType) → Fits ts k r w → (f : Found k.store k.rights ts d p) (x : Datum) → get k.store.live f.id ≡ Some x → At ts k r w d p
    filled d ts k r w p fits f x live =
        let c = balanced_some k.store.live (λ e. over (read_by e) ts k.rights + r e) (λ e. over (write_by e) ts k.rights + w e) f.id x fits.balanced live in
        record {
          id = f.id;
          x = x;
          typed = f.typed;
          register = f.register;
          live = live;
          ty = f.holds.ty x live;
          closed = f.holds.closed x live;
          reads = c.0;
          writes = c.1;
          has_read = hit_read ts k.rights d p f.id f.typed f.register;
          has_write = hit_write ts k.rights d p f.id f.typed f.register;
        }

    located : (d : ℕ) (ts : Typing) (k : Context) (r w : ℕ → ℕ) (p : RightType) → Fits ts k r w → Found k.store k.rights ts d p → At ts k r w d p
    located d ts k r w p fits f =
        let some = some_hit ts k.rights d p f.id f.typed f.register in
        let there_is = held_is_there k.store.live (λ e. over (read_by e) ts k.rights + r e) (λ e. over (write_by e) ts k.rights + w e) f.id fits.balanced (omega arith) in
        filled d ts k r w p fits f there_is.0 there_is.1
