-- A container that is filled with closed scalars by rising subscripts, and then closed.
use Rattle.tw_pool_state.proofs.PartNames.{AreAllLive, Container, Contains, Datum, HasMember, HasNoticeRoom, IsAdded, IsLeft, List, Members, NestedScalar, None, Ok, Right, Scalar, Served, Some, Store, Subscript, Value, [], added, and_parts, ap, arith, below, closed_scalar, container_of, created, get, get-empty, get_or, given_few, given_rises, given_short, given_type, insert, insert_other, inserted, is_given_for, is_lt, is_short, length, length-map, length-take-le, map_more, may_drop_write, may_insert, member_at, members_by, members_next, new_datum, numbered, one_write_less, refl, rises, rises_from, scalar_of, scalar_type, subst, suc, sym, take, take_all, true, value_cmp, with_container, with_member, zero, ℕ, ◌&&◌, ◌++◌, ◌+◌, ◌<◌, ◌^◌, ◌∙◌, ◌∷◌, ◌≡◌, ◌≤◌}
use Rattle.std.proofs.lemmas.Grind.{fold-append}
use Rattle.std.proofs.lemmas.Cmp.{tied_itself}
use Rattle.std.specs.declared.cmp.Ordering.TheVariants.{Less, Equal}
use Rattle.std.specs.FinMap as fin
use Rattle.tw_types.specs.declared.data_type.Scalar.TheVariants as scalar
use Rattle.tw_types.specs.declared.value.Value.TheVariants as value
use Rattle.tw_types.proofs.ValueOrder.{value_cmp_total, value_cmp-IsAntisymmetric}
use Rattle.tw_code.specs.machine.Members.{are_short, with_members}
use Rattle.tw_pool_state.proofs.Adding.{IsReplaced, added_get, added_here, added_replaced, added_then, changed_is, insert_swapped, left_replaced, replaced, replaced_added}

-- ---- subscripts that aren't there yet

abbrev pub IsNew : Subscript → List (Subscript × Value) → Type 0
IsNew k [] = Unit {0}
IsNew k (e ∷ es) = (k ≡ e.0 → ⊥) × IsNew k es

pub next_absent : (id : ℕ) (k : Subscript) (es : List (Subscript × Value)) → IsNew k es → get (numbered id es) k ≡ None
next_absent id k [] new = get-empty value_cmp k
next_absent id k (e ∷ es) new = insert_other value_cmp value_cmp_total value_cmp-IsAntisymmetric (numbered (id + 1) es) e.0 id k new.0 ∙ next_absent (id + 1) k es new.1

-- the next one has the next id
pub numbered_more : (id : ℕ) (k : Subscript) (v : Value) (es : List (Subscript × Value)) → IsNew k es → numbered id (es ++ (k, v) ∷ []) ≡ insert (numbered id es) k (id + length es)
numbered_more id k v [] new = let at : id ≡ id + 0 = omega arith in ap (λ n. insert (fin.empty {X = ℕ} {R = value_cmp}) k n) at
numbered_more id k v (e ∷ es) new =
    let at : id + 1 + length es ≡ id + length (e ∷ es) = omega arith in
    ap (λ (m : Members). insert m e.0 id) (numbered_more (id + 1) k v es new.1 ∙ ap (insert (numbered (id + 1) es) k) at)
    ∙ insert_swapped value_cmp_total value_cmp-IsAntisymmetric (numbered (id + 1) es) k e.0 (id + length (e ∷ es)) id new.0

-- ---- subscripts that rise

apart : (j k : Subscript) → value_cmp j k ≡ Less → k ≡ j → ⊥
apart j k up same =
    let itself : Less ≡ Equal = sym up ∙ ap (value_cmp j) same ∙ tied_itself value_cmp_total j in
    cc

module _ {K V : Type 0} (subscript : K → Subscript) (value : V → Value) where
  later : (before : Subscript) (xs : List (K × V)) (i : ℕ) (d : K × V) → i < length xs → rises_from before (members_by subscript value xs) ≡ true → value_cmp before (subscript (get_or xs i d).0) ≡ Less
  later before [] i d low h = absurd (omega (arith, low))
  later before (x ∷ xs) zero d low h = below _ (and_parts (is_lt (value_cmp before (subscript x.0))) (rises_from (subscript x.0) (members_by subscript value xs)) h).0
  later before (x ∷ xs) (suc i) d low h =
      let both = and_parts (is_lt (value_cmp before (subscript x.0))) (rises_from (subscript x.0) (members_by subscript value xs)) h in
      value_cmp_total.trans before (subscript x.0) (subscript (get_or xs i d).0) (below _ both.0) (later (subscript x.0) xs i d (omega (arith, low)) both.1)

  rises_on : (e : K × V) (es : List (K × V)) → rises (members_by subscript value (e ∷ es)) ≡ true → rises (members_by subscript value es) ≡ true
  rises_on e [] h = refl
  rises_on e (x ∷ es) h = (and_parts (is_lt (value_cmp (subscript e.0) (subscript x.0))) (rises_from (subscript x.0) (members_by subscript value es)) h).1

  pub next_new : (xs : List (K × V)) (i : ℕ) (d : K × V) → i < length xs → rises (members_by subscript value xs) ≡ true → IsNew (subscript (get_or xs i d).0) (members_by subscript value (take i xs))
  next_new [] i d low up = absurd (omega (arith, low))
  next_new (x ∷ xs) zero d low up = tt
  next_new (x ∷ xs) (suc i) d low up =
      let inside : i < length xs = omega (arith, low) in
      (apart (subscript x.0) (subscript (get_or xs i d).0) (later (subscript x.0) xs i d inside up), next_new xs i d inside (rises_on x xs up))

  -- and their texts aren't too long
  short_at : (xs : List (K × V)) (i : ℕ) (d : K × V) → i < length xs → are_short (members_by subscript value xs) ≡ true → (is_short (subscript (get_or xs i d).0) ≡ true) × (is_short (value (get_or xs i d).1) ≡ true)
  short_at [] i d low h = absurd (omega (arith, low))
  short_at (x ∷ xs) zero d low h = and_parts (is_short (subscript x.0)) (is_short (value x.1)) (and_parts (is_short (subscript x.0) && is_short (value x.1)) (are_short (members_by subscript value xs)) h).0
  short_at (x ∷ xs) (suc i) d low h = short_at xs i d (omega (arith, low)) (and_parts (is_short (subscript x.0) && is_short (value x.1)) (are_short (members_by subscript value xs)) h).1

-- ---- members

members_get : (es : List (Subscript × Value)) (s : Store) (id : ℕ) → id < s.next → get (with_members s es).live id ≡ get s.live id
members_get [] s id low = refl
members_get (e ∷ es) s id low = members_get es (added s (closed_scalar e.1)) id (omega (arith, low)) ∙ added_get s (closed_scalar e.1) id low

members_replaced : (es : List (Subscript × Value)) (s : Store) (id : ℕ) (y : Datum) → id < s.next → with_members (replaced s id y) es ≡ replaced (with_members s es) id y
members_replaced [] s id y low = refl
members_replaced (e ∷ es) s id y low = ap (λ t. with_members t es) (replaced_added s id y (closed_scalar e.1) low) ∙ members_replaced es (added s (closed_scalar e.1)) id y (omega (arith, low))

members_more : (es : List (Subscript × Value)) (s : Store) (e : Subscript × Value) → with_members s (es ++ e ∷ []) ≡ added (with_members s es) (closed_scalar e.1)
members_more es s e = fold-append (λ (t : Store) (d : Subscript × Value). added t (closed_scalar d.1)) s es (e ∷ [])

-- ---- the container

-- with so many writes and one read
abbrev pub container : NestedScalar → ℕ → Members → Datum
container ty writes members = record { ty = ty; content = Contains members; reads = 1; writes = writes; subscribers = [] }

-- open, with these members so far
abbrev pub filled : Store → NestedScalar → List (Subscript × Value) → Store
filled s ty es = with_members (added s (container ty 1 (numbered (s.next + 1) es))) es

module _ (s : Store) (ty : NestedScalar) (es : List (Subscript × Value)) where
  abbrev so_far : Members
  so_far = numbered (s.next + 1) es

  pub filled_next : (filled s ty es).next ≡ s.next + 1 + length es
  filled_next = members_next es (added s (container ty 1 so_far))

  pub filled_at : get (filled s ty es).live s.next ≡ Some (container ty 1 so_far)
  filled_at = members_get es (added s (container ty 1 so_far)) s.next (omega arith) ∙ added_here s (container ty 1 so_far)

  -- the container alone is another
  filled_replaced : (y : Datum) → replaced (filled s ty es) s.next y ≡ with_members (added s y) es
  filled_replaced y = sym (members_replaced es (added s (container ty 1 so_far)) s.next y (omega arith)) ∙ ap (λ t. with_members t es) (added_replaced s (container ty 1 so_far) y)

  -- one member more
  pub filled_more : (k : Subscript) (v : Value) → IsNew k es → inserted (added (filled s ty es) (closed_scalar v)) s.next k (filled s ty es).next ≡ filled s ty (es ++ (k, v) ∷ [])
  filled_more k v new =
      let low : s.next < (filled s ty es).next = omega (arith, filled_next) in
      let there = added_get (filled s ty es) (closed_scalar v) s.next low ∙ filled_at in
      let members : insert so_far k (filled s ty es).next ≡ numbered (s.next + 1) (es ++ (k, v) ∷ []) = ap (insert so_far k) filled_next ∙ sym (numbered_more (s.next + 1) k v es new) in
      changed_is (added (filled s ty es) (closed_scalar v)) s.next (with_member k (filled s ty es).next) (container ty 1 so_far) there
      ∙ sym (replaced_added (filled s ty es) s.next (container ty 1 (insert so_far k (filled s ty es).next)) (closed_scalar v) low)
      ∙ ap (λ t. added t (closed_scalar v)) (filled_replaced (container ty 1 (insert so_far k (filled s ty es).next)))
      ∙ ap (λ m. added (with_members (added s (container ty 1 m)) es) (closed_scalar v)) members
      ∙ sym (members_more es (added s (container ty 1 (numbered (s.next + 1) (es ++ (k, v) ∷ [])))) (k, v))

-- ---- while it is filled

pub record IsFilled (s : Served) (ty : NestedScalar) (es : List (Subscript × Value)) (now : Served) (r : Right) : Type 0 where
  pub added : IsAdded (filled s.store ty es) s now r
  pub live : AreAllLive now

new_container : (by inside : Scalar) → new_datum (container_of by (scalar_type inside)) ≡ container (container_of by (scalar_type inside)) 1 fin.empty
new_container by inside = refl

pub fill_begun : (s a : Served) (ty : NestedScalar) (by inside : Scalar) (r : Right) → ty ≡ container_of by (scalar_type inside) → IsAdded (created s.store ty) s a r → AreAllLive a → IsFilled s ty [] a r
fill_begun s a ty by inside r is h all =
    let empty : new_datum ty ≡ container ty 1 fin.empty = subst (λ t. new_datum t ≡ container t 1 fin.empty) (sym is) (new_container by inside) in
    record { added = subst (λ d. IsAdded (added s.store d) s a r) empty h; live = all }

element_may : (by : Scalar) (v : Value) (m : Members) → may_insert by (Some (container (container_of by (scalar_type (scalar_of v))) 1 m)) (Some (closed_scalar v)) ≡ Ok tt
element_may scalar.Int (value.Int n) m = refl
element_may scalar.Int (value.Text t) m = refl
element_may scalar.Text (value.Int n) m = refl
element_may scalar.Text (value.Text t) m = refl

closing_may : (by inside : Scalar) (m : Members) → may_drop_write (Some (container (container_of by (scalar_type inside)) 1 m)) ≡ Ok tt
closing_may by inside m = refl

module _ (s : Served) (ty : NestedScalar) (es : List (Subscript × Value)) (now : Served) (r : Right) (h : IsFilled s ty es now r) where
  pub fill_next : now.store.next ≡ s.store.next + 1 + length es
  fill_next = ap (λ (t : Store). t.next) h.added.store ∙ filled_next s.store ty es

  pub fill_before : r.id < now.store.next
  fill_before = omega (arith, fill_next, h.added.first)

  pub fill_at : get now.store.live r.id ≡ Some (container ty 1 (numbered (s.store.next + 1) es))
  fill_at = ap (λ (t : Store). get t.live r.id) h.added.store ∙ ap (get (filled s.store ty es).live) h.added.first ∙ filled_at s.store ty es

  pub fill_element : (by : Scalar) (v : Value) → ty ≡ container_of by (scalar_type (scalar_of v)) → may_insert by (get now.store.live r.id) (Some (closed_scalar v)) ≡ Ok tt
  fill_element by v is = ap (λ o. may_insert by o (Some (closed_scalar v))) (fill_at ∙ ap (λ t. Some (container t 1 (numbered (s.store.next + 1) es))) is) ∙ element_may by v (numbered (s.store.next + 1) es)

  module _ (k : Subscript) (v : Value) (new : IsNew k es) where
    pub fill_absent : member_at now.store r.id k ≡ None
    fill_absent = rw fill_at (next_absent (s.store.next + 1) k es new)

    pub fill_more : (next : Served) → HasMember r.id k v now next → IsFilled s ty (es ++ (k, v) ∷ []) next r
    fill_more next m = record {
      added = record {
        store = m.store
            ∙ ap (λ t. inserted (added t (closed_scalar v)) r.id k t.next) h.added.store
            ∙ ap (λ id. inserted (added (filled s.store ty es) (closed_scalar v)) id k (filled s.store ty es).next) h.added.first
            ∙ filled_more s.store ty es k v new;
        first = h.added.first;
        here = m.stays r.id fill_before ∙ h.added.here;
        stays = λ id low. m.stays id (omega (arith, low, fill_next)) ∙ h.added.stays id low;
        queues = m.queues ∙ h.added.queues;
      };
      live = m.live;
    }

  -- ---- and closed

  module _ (by inside : Scalar) (is : ty ≡ container_of by (scalar_type inside)) where
    pub close_allowed : may_drop_write (get now.store.live r.id) ≡ Ok tt
    close_allowed = ap may_drop_write (fill_at ∙ ap (λ t. Some (container t 1 (numbered (s.store.next + 1) es))) is) ∙ closing_may by inside (numbered (s.store.next + 1) es)

    pub close_notified : HasNoticeRoom now r.id
    close_notified = rw fill_at (omega arith)

    pub closed : (b : Served) → IsLeft now b r.id one_write_less → IsAdded (with_container s.store by inside es) s b r
    closed b left =
        let members = numbered (s.store.next + 1) es in
        let shut : IsReplaced r.id (container ty 0 members) now b = left_replaced now b r.id one_write_less (container ty 1 members) fill_at h.live left (container ty 0 members) refl refl refl in
        let made : replaced (filled s.store ty es) r.id (container ty 0 members) ≡ with_container s.store by inside es =
        ap (λ id. replaced (filled s.store ty es) id (container ty 0 members)) h.added.first
        ∙ filled_replaced s.store ty es (container ty 0 members)
        ∙ ap (λ t. with_members (added s.store (container t 0 members)) es) is in
        subst (λ t. IsAdded t s b r) made (added_then (filled s.store ty es) s now b r r.id (container ty 0 members) h.added shut)

    pub closed_on : (b : Served) (read : Right) → read ≡ r → IsLeft now b r.id one_write_less → IsAdded (with_container s.store by inside es) s b read
    closed_on b read same left = subst (IsAdded (with_container s.store by inside es) s b) (sym same) (closed b left)

-- ---- at an index

module _ {K V : Type 0} (subscript : K → Subscript) (value : V → Value) (xs : List (K × V)) (i : ℕ) (d : K × V) (s : Served) (ty : NestedScalar) (now : Served) (r : Right) (h : IsFilled s ty (members_by subscript value (take i xs)) now r) where
  abbrev given : List (Subscript × Value)
  given = members_by subscript value xs

  abbrev paired : K × V → Subscript × Value
  paired e = (subscript e.0, value e.1)

  module _ (by inside : Scalar) (fits : is_given_for ty (Container by inside given) ≡ true) where
    pub index_room : i < length xs → s.store.next + 1001 < 2 ^ 63 → now.store.next < 2 ^ 63
    index_room low room = omega (arith, low, room, given_few ty by inside given fits, fill_next s ty (members_by subscript value (take i xs)) now r h, length-map xs paired, length-map (take i xs) paired, length-take-le i xs (omega (arith, low)))

    pub index_element : (k : Subscript) (v : Value) → scalar_of k ≡ by → scalar_of v ≡ inside → may_insert (scalar_of k) (get now.store.live r.id) (Some (closed_scalar v)) ≡ Ok tt
    index_element k v kind of =
        let is : ty ≡ container_of by (scalar_type (scalar_of v)) = given_type ty by inside given fits ∙ ap (λ (t : Scalar). container_of by (scalar_type t)) (sym of) in
        subst (λ (j : Scalar). may_insert j (get now.store.live r.id) (Some (closed_scalar v)) ≡ Ok tt) (sym kind) (fill_element s ty (members_by subscript value (take i xs)) now r h by v is)

    module _ (low : i < length xs) (k : K) (v : V) (same : (k, v) ≡ get_or xs i d) where
      up : rises given ≡ true
      up = given_rises ty by inside given fits

      key_is : subscript k ≡ subscript (get_or xs i d).0
      key_is = ap (λ (e : K × V). subscript e.0) same

      value_is : value v ≡ value (get_or xs i d).1
      value_is = ap (λ (e : K × V). value e.1) same

      short_there : (is_short (subscript (get_or xs i d).0) ≡ true) × (is_short (value (get_or xs i d).1) ≡ true)
      short_there = short_at subscript value xs i d low (given_short ty by inside given fits)

      pub index_key_short : is_short (subscript k) ≡ true
      index_key_short = ap is_short key_is ∙ short_there.0

      pub index_value_short : is_short (value v) ≡ true
      index_value_short = ap is_short value_is ∙ short_there.1

      pub index_absent : member_at now.store r.id (subscript k) ≡ None
      index_absent = ap (member_at now.store r.id) key_is ∙ fill_absent s ty (members_by subscript value (take i xs)) now r h (subscript (get_or xs i d).0) (value (get_or xs i d).1) (next_new subscript value xs i d low up)

      pub index_more : (next : Served) → HasMember r.id (subscript k) (value v) now next → IsFilled s ty (members_by subscript value (take (i + 1) xs)) next r
      index_more next m =
          let e : Subscript × Value = paired (get_or xs i d) in
          let at : HasMember r.id e.0 e.1 now next = subst (λ j. HasMember r.id j e.1 now next) key_is (subst (λ x. HasMember r.id (subscript k) x now next) value_is m) in
          let more = fill_more s ty (members_by subscript value (take i xs)) now r h e.0 e.1 (next_new subscript value xs i d low up) next at in
          subst (λ es. IsFilled s ty es next r) (sym (map_more paired xs i d low)) more

-- all of them
pub index_all : {K V : Type 0} (subscript : K → Subscript) (value : V → Value) (xs : List (K × V)) (i : ℕ) (s : Served) (ty : NestedScalar) (now : Served) (r : Right) → IsFilled s ty (members_by subscript value (take i xs)) now r → length xs ≤ i → IsFilled s ty (members_by subscript value xs) now r
index_all {K} {V} subscript value xs i s ty now r h past = subst (λ (ys : List (K × V)). IsFilled s ty (members_by subscript value ys) now r) (take_all i xs past) h
