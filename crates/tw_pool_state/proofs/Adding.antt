-- Adding data, and replacing one by another with its id: the effects of the store's calls, if nothing is freed and there is no notice.
use Rattle.std.proofs.Common.{◌≡◌, ◌<◌, ◌+◌, ℕ, Bool, true, false, cond, IfOk, OnOk, List, [], Option, Some, None, refl, sym, ap, subst, ◌∙◌, arith, inl, inr, slice_set}
use Rattle.tw_pool_state.proofs.PartNames.{AreAllLive, Datum, FinMap, FreedDatum, HasMember, HasNoticeRoom, IsAdded, IsAntisymmetric, IsHere, IsLeft, IsNow, IsSome, IsTotalOrder, NestedScalar, Notice, Ok, Ordering, Right, Scalar, Served, Store, Subscript, Value, added, append-nil, cases_eq, changed, closed_scalar, created, empty, eq_by_cmp, get, get-empty, get-insert, insert, insert_other, inserted, is_unheld, may_insert, may_store, member_at, members_in, nat_cmp, nat_cmp-IsAntisymmetric, nat_cmp_total, new_datum, notices_after, notices_of, option_and_then, queued, same_map, scalar_of, scalar_type, set-get_or, set_to, store_after, subscribers_cleared, there_then, tied, with_datum, with_member}
use Rattle.std.specs.declared.result.Result.{Result}
use Rattle.std.specs.declared.result.Result.TheVariants.{Err}
use Rattle.tw_types.specs.declared.value.Value.TheVariants as value
use Rattle.tw_types.proofs.Freeing.{data_insert_other, data_insert_same}

-- ---- maps

module _ {K X : Type 0} {R : K → K → Ordering} (o : IsTotalOrder R) (same : IsAntisymmetric R) (m : FinMap R X) where
  -- the later one stays
  pub insert_again : (k : K) (x y : X) → insert (insert m k x) k y ≡ insert m k y
  insert_again k x y = same_map o same _ _ (λ q. get-insert o (insert m k x) k y q ∙ ap (cond (eq_by_cmp R q k) (Some y)) (get-insert o m k x q) ∙ at q (eq_by_cmp R q k) ∙ sym (get-insert o m k y q))
    where
      at : (q : K) (b : Bool) → cond b (Some y) (cond b (Some x) (get m q)) ≡ cond b (Some y) (get m q)
      at q true = refl
      at q false = refl

  -- at two keys, in any order
  pub insert_swapped : (j k : K) (x y : X) → (j ≡ k → ⊥) → insert (insert m j x) k y ≡ insert (insert m k y) j x
  insert_swapped j k x y apart = same_map o same _ _ (λ q.
      get-insert o (insert m j x) k y q
      ∙ ap (cond (eq_by_cmp R q k) (Some y)) (get-insert o m j x q)
      ∙ at q (eq_by_cmp R q k) (eq_by_cmp R q j) refl refl
      ∙ ap (cond (eq_by_cmp R q j) (Some x)) (sym (get-insert o m k y q))
      ∙ sym (get-insert o (insert m k y) j x q))
    where
      at : (q : K) (a b : Bool) → eq_by_cmp R q k ≡ a → eq_by_cmp R q j ≡ b → cond a (Some y) (cond b (Some x) (get m q)) ≡ cond b (Some x) (cond a (Some y) (get m q))
      at q true true e f = absurd (apart (sym (same q j (tied _ f)) ∙ same q k (tied _ e)))
      at q true false e f = refl
      at q false true e f = refl
      at q false false e f = refl

-- ---- stores

-- this datum has the id
abbrev pub replaced : Store → ℕ → Datum → Store
replaced s id y = record s { live = insert s.live id y }

pub added_replaced : (s : Store) (x y : Datum) → replaced (added s x) s.next y ≡ added s y
added_replaced s x y = ap (λ m. record { live = m; next = s.next + 1 }) (insert_again nat_cmp_total nat_cmp-IsAntisymmetric s.live s.next x y)

pub replaced_added : (s : Store) (id : ℕ) (y z : Datum) → id < s.next → added (replaced s id y) z ≡ replaced (added s z) id y
replaced_added s id y z low = ap (λ m. record { live = m; next = s.next + 1 }) (insert_swapped nat_cmp_total nat_cmp-IsAntisymmetric s.live id s.next y z (λ e. omega (arith, low, e)))

pub added_get : (s : Store) (z : Datum) (id : ℕ) → id < s.next → get (added s z).live id ≡ get s.live id
added_get s z id low = data_insert_other s.live s.next z id (λ e. omega (arith, low, e))

pub added_here : (s : Store) (z : Datum) → get (added s z).live s.next ≡ Some z
added_here s z = data_insert_same s.live s.next z

pub changed_is : (s : Store) (id : ℕ) (f : Datum → Datum) (x : Datum) → get s.live id ≡ Some x → changed s id f ≡ replaced s id (f x)
changed_is s id f x here = rw here refl

-- a datum that is live afterwards was live before, or is the replaced one
not_gone : (s : Store) (id : ℕ) (y : Datum) (k : ℕ) → get (replaced s id y).live k ≡ None → get s.live k ≡ None
not_gone s id y k none = elim (cases_eq k id) [
  | inl same ↦ let there : get (replaced s id y).live k ≡ Some y = ap (get (replaced s id y).live) same ∙ data_insert_same s.live id y in absurd (let t : None ≡ Some y = sym none ∙ there in cc)
  | inr other ↦ sym (data_insert_other s.live id y k other) ∙ none
]

-- ---- calls

-- a datum is replaced; all data keep their places, and no notice is added
pub record IsReplaced (id : ℕ) (y : Datum) (old new : Served) : Type 0 where
  pub store : new.store ≡ replaced old.store id y
  pub places : (k : ℕ) → get new.places k ≡ get old.places k
  pub queues : new.queues ≡ old.queues
  pub live : AreAllLive new

pub queued_none : (id : ℕ) (queues : List (List Notice)) → queued id [] queues ≡ queues
queued_none id queues = ap (slice_set queues _) (append-nil _) ∙ set-get_or queues _ []

module _ (old new : Served) (id : ℕ) (f : Datum → Datum) (x : Datum) (here : get old.store.live id ≡ Some x) (all : AreAllLive old) where
  pub left_replaced : IsLeft old new id f → (y : Datum) → subscribers_cleared (f x) ≡ y → is_unheld y ≡ false → notices_of id (f x) ≡ [] → IsReplaced id y old new
  left_replaced left y is held none = record {
    store = store;
    places = λ k. at k (get new.store.live k) refl;
    queues = left.queues ∙ ap (λ ns. queued id ns old.queues) (notified ∙ none) ∙ queued_none id old.queues;
    live = left.places.leaves;
  }
    where
      after : store_after old.store id f ≡ with_datum old.store id (subscribers_cleared (f x))
      after = rw here refl

      notified : notices_after old.store id f ≡ notices_of id (f x)
      notified = rw here refl

      kept : with_datum old.store id y ≡ replaced old.store id y
      kept = rw held refl

      store : new.store ≡ replaced old.store id y
      store = left.store ∙ after ∙ ap (with_datum old.store id) is ∙ kept

      at : (k : ℕ) (o : Option Datum) → get new.store.live k ≡ o → get new.places k ≡ get old.places k
      at k (Some z) e = left.places.stays k z e
      at k None e = left.places.leaves k e ∙ sym (all k (not_gone old.store id y k (ap (λ (t : Store). get t.live k) (sym store) ∙ e)))

  pub now_replaced : IsNow (changed old.store id f) old new → IsReplaced id (f x) old new
  now_replaced now =
      let store = now.store ∙ changed_is old.store id f x here in
      record {
        store = store;
        places = λ k. ap (λ ps. get ps k) now.places;
        queues = now.queues;
        live = λ k none. ap (λ ps. get ps k) now.places ∙ all k (not_gone old.store id (f x) k (ap (λ (t : Store). get t.live k) (sym store) ∙ none));
      }

-- the added data, after one of them was replaced
pub added_then : (t : Store) (s a b : Served) (r : Right) (id : ℕ) (y : Datum) → IsAdded t s a r → IsReplaced id y a b → IsAdded (replaced t id y) s b r
added_then t s a b r id y h then_is = record {
  store = then_is.store ∙ ap (λ u. replaced u id y) h.store;
  first = h.first;
  here = then_is.places r.id ∙ h.here;
  stays = λ k low. then_is.places k ∙ h.stays k low;
  queues = then_is.queues ∙ h.queues;
}

-- ---- a datum is made

-- the effect of `create`, if all data with places were live
pub record IsMade (s a : Served) (ty : NestedScalar) (w r : Right) : Type 0 where
  pub made : a.store ≡ created s.store ty
  pub write : w.id ≡ s.store.next
  pub read : r ≡ w
  pub places : a.places ≡ insert s.places s.store.next w.place
  pub here : IsHere a w
  pub quiet : a.queues ≡ s.queues
  pub live : AreAllLive s

module _ (s a : Served) (ty : NestedScalar) (w r : Right) (h : IsMade s a ty w r) where
  pub made_at : get a.store.live w.id ≡ Some (new_datum ty)
  made_at = ap (λ (t : Store). get t.live w.id) h.made ∙ ap (get (created s.store ty).live) h.write ∙ added_here s.store (new_datum ty)

  other : (k : ℕ) → (k ≡ s.store.next → ⊥) → get a.places k ≡ get s.places k
  other k apart = ap (λ ps. get ps k) h.places ∙ insert_other nat_cmp nat_cmp_total nat_cmp-IsAntisymmetric s.places s.store.next w.place k apart

  pub made_live : AreAllLive a
  made_live k none = elim (cases_eq k s.store.next) [
    | inl same ↦ absurd (let t : None ≡ Some (new_datum ty) = sym none ∙ ap (get a.store.live) (same ∙ sym h.write) ∙ made_at in cc)
    | inr apart ↦ other k apart ∙ h.live k (sym (data_insert_other s.store.live s.store.next (new_datum ty) k apart) ∙ ap (λ (t : Store). get t.live k) (sym h.made) ∙ none)
  ]

  pub made_added : IsAdded (created s.store ty) s a w
  made_added = record {
    store = h.made;
    first = h.write;
    here = h.here;
    stays = λ k low. other k (λ e. omega (arith, low, e));
    queues = h.quiet;
  }

-- ---- a scalar is made, and set

pub scalar_may : (v : Value) → may_store v (Some (new_datum (scalar_type (scalar_of v)))) ≡ Ok tt
scalar_may (value.Int n) = refl
scalar_may (value.Text t) = refl

module _ (s a : Served) (v : Value) (w r : Right) (h : IsMade s a (scalar_type (scalar_of v)) w r) where
  pub scalar_allowed : may_store v (get a.store.live w.id) ≡ Ok tt
  scalar_allowed = ap (may_store v) (made_at s a (scalar_type (scalar_of v)) w r h) ∙ scalar_may v

  pub scalar_notified : HasNoticeRoom a w.id
  scalar_notified = rw (made_at s a (scalar_type (scalar_of v)) w r h) (omega arith)

  pub scalar_added : (b : Served) → IsLeft a b w.id (set_to v) → IsAdded (added s.store (closed_scalar v)) s b r
  scalar_added b left =
      let ty : NestedScalar = scalar_type (scalar_of v) in
      let set = left_replaced a b w.id (set_to v) (new_datum ty) (made_at s a ty w r h) (made_live s a ty w r h) left (closed_scalar v) refl refl refl in
      let is : replaced (created s.store ty) w.id (closed_scalar v) ≡ added s.store (closed_scalar v) = ap (λ id. replaced (created s.store ty) id (closed_scalar v)) h.write ∙ added_replaced s.store (new_datum ty) (closed_scalar v) in
      on_read (subst (λ t. IsAdded t s b w) is (added_then _ s a b w w.id (closed_scalar v) (made_added s a ty w r h) set))
    where
      on_read : IsAdded (added s.store (closed_scalar v)) s b w → IsAdded (added s.store (closed_scalar v)) s b r
      on_read = subst (IsAdded (added s.store (closed_scalar v)) s b) (sym h.read)

-- ---- a closed datum is made

module _ (s a : Served) (x : Datum) (r : Right) (made : a.store ≡ added s.store x) (placed : a.places ≡ insert s.places s.store.next r.place) where
  kept_place : (k : ℕ) → (k ≡ s.store.next → ⊥) → get a.places k ≡ get s.places k
  kept_place k apart = ap (λ ps. get ps k) placed ∙ insert_other nat_cmp nat_cmp_total nat_cmp-IsAntisymmetric s.places s.store.next r.place k apart

  all_live : AreAllLive s → AreAllLive a
  all_live all k none = elim (cases_eq k s.store.next) [
    | inl same ↦ absurd (let t : None ≡ Some x = sym none ∙ ap (get a.store.live) same ∙ ap (λ (u : Store). get u.live s.store.next) made ∙ added_here s.store x in cc)
    | inr apart ↦ kept_place k apart ∙ all k (sym (data_insert_other s.store.live s.store.next x k apart) ∙ ap (λ (u : Store). get u.live k) (sym made) ∙ none)
  ]

-- the effect of `create_map`
pub closed_added : {E : Type 0} (o : Result Right E) (s a : Served) (x : Datum) → OnOk o (a.store ≡ added s.store x) → IfOk o (λ r. r.id ≡ s.store.next) → IfOk o (λ r. a.places ≡ insert s.places s.store.next r.place) → IfOk o (IsHere a) → a.queues ≡ s.queues
    → IfOk o (IsAdded (added s.store x) s a)
closed_added (Ok r) s a x made first placed here quiet = record { store = made; first = first; here = here; stays = λ k low. kept_place s a x r made placed k (λ e. omega (arith, low, e)); queues = quiet }
closed_added (Err e) s a x made first placed here quiet = here

pub closed_live : {E : Type 0} (o : Result Right E) (s a : Served) (x : Datum) → OnOk o (a.store ≡ added s.store x) → IfOk o (λ r. a.places ≡ insert s.places s.store.next r.place) → AreAllLive s → OnOk o (AreAllLive a)
closed_live (Ok r) s a x made placed all = all_live s a x r made placed all
closed_live (Err e) s a x made placed all = made

-- ---- a scalar that was added becomes a member

module _ (s a : Served) (v : Value) (m : Right) (h : IsAdded (added s.store (closed_scalar v)) s a m) (id : ℕ) (low : id < s.store.next) (by : Scalar) (may : may_insert by (get s.store.live id) (Some (closed_scalar v)) ≡ Ok tt) where
  still : get a.store.live id ≡ get s.store.live id
  still = ap (λ (t : Store). get t.live id) h.store ∙ added_get s.store (closed_scalar v) id low

  pub member_allowed : may_insert by (get a.store.live id) (get a.store.live m.id) ≡ Ok tt
  member_allowed =
      let new : get a.store.live m.id ≡ Some (closed_scalar v) = ap (λ (t : Store). get t.live m.id) h.store ∙ ap (get (added s.store (closed_scalar v)).live) h.first ∙ added_here s.store (closed_scalar v) in
      ap (λ o. may_insert by o (get a.store.live m.id)) still ∙ ap (may_insert by (get s.store.live id)) new ∙ may

  pub member_not_there : (k : Subscript) → member_at s.store id k ≡ None → IsSome (member_at a.store id k) → ⊥
  member_not_there k none some = not_both (member_at a.store id k) (ap (option_and_then (λ (x : Datum). get (members_in x.content) k)) still ∙ none) some
    where
      not_both : (o : Option ℕ) → o ≡ None → IsSome o → ⊥
      not_both None e there = cc
      not_both (Some x) e there = cc

  pub member_added : (b : Served) (k : Subscript) → AreAllLive a → IsNow (inserted a.store id k m.id) a b → HasMember id k v s b
  member_added b k all now =
      let there = there_then (get s.store.live id) FreedDatum _ tt may in
      record {
        store = now.store ∙ ap (λ n. inserted a.store id k n) h.first ∙ ap (λ t. inserted t id k s.store.next) h.store;
        stays = λ d under. ap (λ ps. get ps d) now.places ∙ h.stays d under;
        queues = now.queues ∙ h.queues;
        live = (now_replaced a b id (with_member k m.id) there.0 (still ∙ there.1) all now).live;
      }

-- ---- before anything is added

pub empty_live : (s : Served) → s.places ≡ empty → AreAllLive s
empty_live s none id gone = ap (λ ps. get ps id) none ∙ get-empty nat_cmp id
