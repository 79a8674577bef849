-- Each input of main makes a right store: its data are closed, with one read, which main holds.
use Rattle.std.proofs.Common.{◌≡◌, ℕ, ◌+◌, ◌<◌, ◌≤◌, ◌⊎◌, inl, inr, Bool, true, false, if◌then◌else◌, List, [], ◌∷◌, fold, length, Some, None, refl, sym, ap, subst, ◌∙◌, arith}
use Rattle.tw_soundness.proofs.MachineNames.{AreEntriesFor, Balanced, Container, Contains, Datum, Entries, Given, HaveWriters, Holds, Input, IsTypedStore, Less, Mode, NestedScalar, Scalar, Single, Store, Subscript, Value, added, added_given, and_parts, are_entries, are_members, cases_eq, closed_map, closed_scalar, container_of, count_of, data_insert_same, entered, get, get-empty, given_by, given_for, has_sums, hits, hits_other, hits_same, insert, insert_other, is_closed, is_given_for, is_input_of, is_lt, is_map, is_map_of, is_short, map_with, members_by, nat_le, no_entries, numbered, one_more_entry, put_or_before, rises, rises_from, same_Some, same_scalar, same_type, same_types, scalar_itself, scalar_of, scalar_type, subscripts_in, tied_itself, total-empty, value_cmp, value_cmp-IsAntisymmetric, value_cmp_total, with_container, with_input}
use Rattle.std.specs.FinMap as fin
use Rattle.tw_types.specs.declared.data_type.Scalar.TheVariants as scalar
use Rattle.tw_types.specs.declared.input.Input.TheVariants as input
use Rattle.tw_types.specs.declared.value.Value.TheVariants as value
use Rattle.tw_types.proofs.Orders.{below}
use Rattle.tw_soundness.proofs.DataInsert.{count_total, values_insert}
use Rattle.tw_soundness.proofs.Filling.{IsFilling, IsNext, added_filling, filled, filled_balanced, filled_typed, inside-le, not_yet, plain_next, undisturbed_added}
use Rattle.tw_soundness.proofs.Registers.{Undisturbed, holds_undisturbed, undisturbed_after, undisturbed_itself}

-- ---- subscripts that rise

rises_on : (e : Subscript × Value) (es : List (Subscript × Value)) → rises (e ∷ es) ≡ true → rises es ≡ true
rises_on e [] h = refl
rises_on e (f ∷ es) h = (and_parts (is_lt (value_cmp e.0 f.0)) (rises_from f.0 es) h).1

-- no later subscript is one that isn't above
not_numbered : (es : List (Subscript × Value)) (id : ℕ) (before k : Subscript) → rises_from before es ≡ true → is_lt (value_cmp before k) ≡ false → get (numbered id es) k ≡ None
not_numbered [] id before k h low = get-empty value_cmp k
not_numbered (e ∷ es) id before k h low =
    let both = and_parts (is_lt (value_cmp before e.0)) (rises_from e.0 es) h in
    insert_other value_cmp value_cmp_total value_cmp-IsAntisymmetric (numbered (id + 1) es) e.0 id k (λ z. different z both.0) ∙ not_numbered es (id + 1) e.0 k both.1 (lower both.0 (is_lt (value_cmp e.0 k)) refl)
  where
    different : k ≡ e.0 → is_lt (value_cmp before e.0) ≡ true → ⊥
    different z above = let t : true ≡ false = sym above ∙ ap (λ (j : Subscript). is_lt (value_cmp before j)) (sym z) ∙ low in cc

    lower : is_lt (value_cmp before e.0) ≡ true → (b : Bool) → is_lt (value_cmp e.0 k) ≡ b → is_lt (value_cmp e.0 k) ≡ false
    lower above false is = is
    lower above true is =
        let through : value_cmp before k ≡ Less = value_cmp_total.trans before e.0 k (below (value_cmp before e.0) above) (below (value_cmp e.0 k) is) in
        let t : true ≡ false = sym (ap is_lt through) ∙ low in cc

new_subscript : (e : Subscript × Value) (es : List (Subscript × Value)) (id : ℕ) → rises (e ∷ es) ≡ true → get (numbered id es) e.0 ≡ None
new_subscript e es id h = not_numbered es id e.0 e.0 h (ap is_lt (tied_itself value_cmp_total e.0))

-- ---- the ids of the members

out_of_range : (es : List (Subscript × Value)) (id d : ℕ) → rises es ≡ true → (d < id) ⊎ (id + length es ≤ d) → count_of d (fin.values (numbered id es)) ≡ 0
out_of_range [] id d h out = count_total d fin.empty ∙ total-empty value_cmp (hits d)
out_of_range (e ∷ es) id d h out =
    let one = values_insert (numbered (id + 1) es) e.0 id d (new_subscript e es (id + 1) h) in
    let hit = hits_other d id (λ z. not_here z out) in
    let rest = out_of_range es (id + 1) d (rises_on e es h) (further out) in
    omega arith
  where
    not_here : id ≡ d → (d < id) ⊎ (id + length (e ∷ es) ≤ d) → ⊥
    not_here z (inl low) = omega arith
    not_here z (inr high) = omega arith

    further : (d < id) ⊎ (id + length (e ∷ es) ≤ d) → (d < id + 1) ⊎ (id + 1 + length es ≤ d)
    further (inl low) = inl (omega arith)
    further (inr high) = inr (omega arith)

in_range : (es : List (Subscript × Value)) (id d : ℕ) → rises es ≡ true → id ≤ d → d < id + length es → count_of d (fin.values (numbered id es)) ≡ 1
in_range [] id d h low high = absurd (omega arith)
in_range (e ∷ es) id d h low high =
    let one = values_insert (numbered (id + 1) es) e.0 id d (new_subscript e es (id + 1) h) in
    elim (cases_eq id d) [
      | inl same ↦
          let hit : hits d id ≡ 1 = ap (λ k. hits k id) (sym same) ∙ hits_same id in
          let rest = out_of_range es (id + 1) d (rises_on e es h) (inl (omega arith)) in
          omega arith
      | inr other ↦
          let hit = hits_other d id other in
          let rest = in_range es (id + 1) d (rises_on e es h) (omega arith) (omega arith) in
          omega arith
    ]

-- ---- stores that are right

-- typed, with so many reads and writes held outside
pub record IsRight (s : Store) (r w : ℕ → ℕ) : Type 0 where
  pub typed : IsTypedStore s
  pub balanced : Balanced s.live r w
  pub writers : HaveWriters s.live

pub right_filled : (s : Store) (ty : Scalar) (r w : ℕ → ℕ) → IsRight s r w → IsFilling s ty 0 r w
right_filled s ty r w h = filled s ty r w h.typed h.balanced h.writers

pub filled_right : (s : Store) (ty : Scalar) (r w : ℕ → ℕ) → IsFilling s ty 0 r w → IsRight s r w
filled_right s ty r w f = record { typed = filled_typed s ty r w f; balanced = filled_balanced s ty r w f; writers = f.writers }

-- the effect of an input: one more datum, of which main holds a read, and for which it may wait
pub record IsGiven (s t : Store) (ty : NestedScalar) (r w : ℕ → ℕ) : Type 0 where
  pub right : IsRight t (λ d. r d + hits d s.next) w
  pub others : Undisturbed s t
  pub holds : (mode : Mode) → Holds t (record { mode = mode; ty = ty }) s.next

-- ---- members

abbrev add_member : Store → Subscript × Value → Store
add_member t e = added t (closed_scalar e.1)

-- their subscripts are of the first type, and their values of the second
abbrev AreTyped : Scalar → Scalar → List (Subscript × Value) → Type 0
AreTyped by ty [] = Unit {0}
AreTyped by ty (e ∷ es) = (scalar_of e.0 ≡ by) × (scalar_of e.1 ≡ ty) × AreTyped by ty es

member_next : (t : Store) (ty : Scalar) (left : ℕ) (r w : ℕ → ℕ) (v : Value) → IsFilling t ty (left + 1) r w → scalar_of v ≡ ty → IsNext t (closed_scalar v) ty left r w r w
member_next t ty left r w v f of =
    let none = f.unheld t.next (not_yet t ty (left + 1) r w f) in
    let here = f.soon t.next (omega arith) (omega arith) in
    record {
      content = (refl, refl);
      shallow = omega arith;
      writers = refl;
      mine = λ c x at some. f.awaited c t.next x at (omega arith) some ∙ ap (λ (u : Scalar). Some (scalar_type u)) (sym of);
      awaited = λ c d x at l some. f.awaited c d x at (omega arith) some;
      own = λ d l some. absurd (omega arith);
      none = λ d l. refl;
      soon = λ d l m. let h = f.soon d (omega arith) (omega arith) in omega arith;
      never = λ d l. let h = f.never d (omega arith) in omega arith;
      others = λ d other. (refl, refl);
      reads = omega (arith, none.0);
      writes = sym none.1;
      some = omega arith;
    }

fill_members : (es : List (Subscript × Value)) (t : Store) (by ty : Scalar) (r w : ℕ → ℕ) → IsFilling t ty (length es) r w → AreTyped by ty es → IsFilling (fold add_member t es) ty 0 r w × Undisturbed t (fold add_member t es)
fill_members [] t by ty r w f of = (f, undisturbed_itself t)
fill_members (e ∷ es) t by ty r w f of =
    let g : IsFilling t ty (length es + 1) r w = subst (λ n. IsFilling t ty n r w) (omega arith) f in
    let rest = fill_members es (added t (closed_scalar e.1)) by ty r w (added_filling t ty (length es + 1) r w g (closed_scalar e.1) ty (length es) r w (member_next t ty (length es) r w e.1 g of.1)) of.2 in
    (rest.0, undisturbed_after t (added t (closed_scalar e.1)) (fold add_member (added t (closed_scalar e.1)) es) (undisturbed_added t ty (length es + 1) r w g (closed_scalar e.1)) rest.1)

-- ---- a closed datum at the next id

closed_holds : (s : Store) (y : Datum) (mode : Mode) → is_closed y ≡ true → Holds (added s y) (record { mode = mode; ty = y.ty }) s.next
closed_holds s y mode closed = record {
  given = omega arith;
  ty = λ x at. ap (λ (z : Datum). z.ty) (sym (same x at));
  closed = λ x at c. ap is_closed (sym (same x at)) ∙ closed;
}
  where
    same : (x : Datum) → get (insert s.live s.next y) s.next ≡ Some x → y ≡ x
    same x at = same_Some y x (sym (data_insert_same s.live s.next y) ∙ at)

-- ---- containers

-- each member has a subscript of the container's type
numbered_by : (es : List (Subscript × Value)) (id : ℕ) (by ty : Scalar) (k : Subscript) (m : ℕ) → AreTyped by ty es → get (numbered id es) k ≡ Some m → same_scalar (scalar_of k) by ≡ true
numbered_by [] id by ty k m of at = let z : None ≡ Some m = sym (get-empty value_cmp k) ∙ at in cc
numbered_by (e ∷ es) id by ty k m of at = elim (put_or_before value_cmp_total value_cmp-IsAntisymmetric (numbered (id + 1) es) e.0 id k m at) [
  | inl here ↦ ap (λ (j : Subscript). same_scalar (scalar_of j) by) here.0 ∙ ap (λ (u : Scalar). same_scalar u by) of.0 ∙ scalar_itself by
  | inr later ↦ numbered_by es (id + 1) by ty k m of.2 later
]

-- ---- inputs

abbrev IsTyped : Given → Type 0
IsTyped (Single x) = Unit {0}
IsTyped (Container by scalar es) = AreTyped by scalar es
IsTyped (Entries sums by scalar es) = AreTyped by scalar es

each_typed : {K V : Type 0} (subscript : K → Subscript) (value : V → Value) (by ty : Scalar) → ((k : K) → scalar_of (subscript k) ≡ by) → ((v : V) → scalar_of (value v) ≡ ty)
    → (es : List (K × V)) → AreTyped by ty (members_by subscript value es)
each_typed subscript value by ty named of [] = tt
each_typed subscript value by ty named of (e ∷ es) = (named e.0, of e.1, each_typed subscript value by ty named of es)

all_typed : (i : Input) → IsTyped (given_by i)
all_typed (input.Int n) = tt
all_typed (input.Text text) = tt
all_typed (input.Ints es) = each_typed value.Int value.Int scalar.Int scalar.Int (λ n. refl) (λ n. refl) es
all_typed (input.Texts es) = each_typed value.Int value.Text scalar.Int scalar.Text (λ n. refl) (λ text. refl) es
all_typed (input.IntsByText es) = each_typed value.Text value.Int scalar.Text scalar.Int (λ text. refl) (λ n. refl) es
all_typed (input.TextsByText es) = each_typed value.Text value.Text scalar.Text scalar.Text (λ text. refl) (λ text. refl) es

typed_either : (b sums : Bool) (by scalar : Scalar) (es : List (Subscript × Value)) → AreTyped by scalar es → IsTyped (if b then Entries sums by scalar es else Container by scalar es)
typed_either true sums by scalar es h = h
typed_either false sums by scalar es h = h

typed_for : (ty : NestedScalar) (i : Input) → IsTyped (given_for ty i)
typed_for ty (input.Int n) = tt
typed_for ty (input.Text text) = tt
typed_for ty (input.Ints es) = typed_either (is_map ty) (has_sums ty.map) scalar.Int scalar.Int _ (all_typed (input.Ints es))
typed_for ty (input.Texts es) = typed_either (is_map ty) (has_sums ty.map) scalar.Int scalar.Text _ (all_typed (input.Texts es))
typed_for ty (input.IntsByText es) = typed_either (is_map ty) (has_sums ty.map) scalar.Text scalar.Int _ (all_typed (input.IntsByText es))
typed_for ty (input.TextsByText es) = typed_either (is_map ty) (has_sums ty.map) scalar.Text scalar.Text _ (all_typed (input.TextsByText es))

-- the values of a map are of its types
entered_by : (sums : Bool) (es : List (Subscript × Value)) (by ty : Scalar) → AreTyped by ty es → AreEntriesFor (map_with sums by ty) (entered es)
entered_by sums [] by ty of = no_entries (map_with sums by ty)
entered_by sums (e ∷ es) by ty of = one_more_entry (map_with sums by ty) (entered es) e.0 e.1 (entered_by sums es by ty of.2)
    (ap (λ (u : Scalar). is_map_of u (scalar_of e.1) (map_with sums by ty)) of.0 ∙ (ap (λ (u : Scalar). is_map_of by u (map_with sums by ty)) of.1 ∙ own sums))
  where
    own : (sums : Bool) → is_map_of by ty (map_with sums by ty) ≡ true
    own true = rw (scalar_itself by) (scalar_itself ty)
    own false = rw (scalar_itself by) (scalar_itself ty)

made_map : (sums : Bool) (by ty : Scalar) → is_map (map_with sums by ty) ≡ true
made_map true by ty = refl
made_map false by ty = refl

module _ (s : Store) (r w : ℕ → ℕ) (h : IsRight s r w) where
  abbrev container : Scalar → Scalar → List (Subscript × Value) → Datum
  container by ty es = record { ty = container_of by (scalar_type ty); content = Contains (numbered (s.next + 1) es); reads = 1; writes = 0; subscribers = [] }

  container_next : (by ty : Scalar) (es : List (Subscript × Value)) → rises es ≡ true → AreTyped by ty es → IsNext s (container by ty es) ty (length es) r w (λ d. r d + hits d s.next) w
  container_next by ty es up of =
      let f = right_filled s ty r w h in
      let none = f.unheld s.next (not_yet s ty 0 r w f) in
      let one = hits_same s.next in
      let zero = f.never s.next (omega arith) in
      record {
        content = (refl, λ k m at. numbered_by es (s.next + 1) by ty k m of at);
        shallow = omega arith;
        writers = tt;
        mine = λ c x at some. absurd (nothing_yet f c s.next x at (omega arith) some);
        awaited = λ c d x at l some. f.awaited c d x at (omega arith) some;
        own = λ d l some. refl;
        none = λ d l. out_of_range es (s.next + 1) d up (inl (omega arith));
        soon = λ d l m. let a = in_range es (s.next + 1) d up (omega arith) (omega arith) in let b = f.never d (omega arith) in omega arith;
        never = λ d l. let a = out_of_range es (s.next + 1) d up (inr (omega arith)) in let b = f.never d (omega arith) in omega arith;
        others = λ d other. (let no_hit = hits_other d s.next (λ z. other (sym z)) in omega arith, refl);
        reads = omega (arith, none.0);
        writes = sym none.1;
        some = omega arith;
      }
    where
      nothing_yet : IsFilling s ty 0 r w → (c d : ℕ) (x : Datum) → get s.live c ≡ Some x → s.next ≤ d → 0 < subscripts_in d x → ⊥
      nothing_yet f c d x at l some = let le = inside-le s c d x at in let zero = f.never d (omega arith) in omega arith

  container_given : (by ty : Scalar) (es : List (Subscript × Value)) → rises es ≡ true → AreTyped by ty es → IsGiven s (with_container s by ty es) (container_of by (scalar_type ty)) r w
  container_given by ty es up of =
      let f = right_filled s ty r w h in
      let first = added_filling s ty 0 r w f (container by ty es) ty (length es) (λ d. r d + hits d s.next) w (container_next by ty es up of) in
      let all = fill_members es (added s (container by ty es)) by ty (λ d. r d + hits d s.next) w first of in
      record {
        right = filled_right (with_container s by ty es) ty (λ d. r d + hits d s.next) w all.0;
        others = undisturbed_after s (added s (container by ty es)) (with_container s by ty es) (undisturbed_added s ty 0 r w f (container by ty es)) all.1;
        holds = λ mode. holds_undisturbed (added s (container by ty es)) (with_container s by ty es) all.1 (record { mode = mode; ty = container_of by (scalar_type ty) }) s.next (closed_holds s (container by ty es) mode refl);
      }

  scalar_given : (v : Value) → IsGiven s (added s (closed_scalar v)) (scalar_type (scalar_of v)) r w
  scalar_given v =
      let f = right_filled s (scalar_of v) r w h in
      let none = f.unheld s.next (not_yet s (scalar_of v) 0 r w f) in
      let one = hits_same s.next in
      let next = plain_next s (scalar_of v) (scalar_of v) r w (λ d. r d + hits d s.next) w (closed_scalar v) f (refl, refl) (omega arith) refl refl
      (λ d other. (let no_hit = hits_other d s.next (λ z. other (sym z)) in omega arith, refl)) (omega (arith, none.0)) (sym none.1) (omega arith) in
      record {
        right = filled_right (added s (closed_scalar v)) (scalar_of v) (λ d. r d + hits d s.next) w (added_filling s (scalar_of v) 0 r w f (closed_scalar v) (scalar_of v) 0 (λ d. r d + hits d s.next) w next);
        others = undisturbed_added s (scalar_of v) 0 r w f (closed_scalar v);
        holds = λ mode. closed_holds s (closed_scalar v) mode refl;
      }

  map_given : (sums : Bool) (by ty : Scalar) (es : List (Subscript × Value)) → AreTyped by ty es → IsGiven s (added s (closed_map sums by ty es)) (map_with sums by ty) r w
  map_given sums by ty es of =
      let f = right_filled s ty r w h in
      let none = f.unheld s.next (not_yet s ty 0 r w f) in
      let one = hits_same s.next in
      let next = plain_next s ty ty r w (λ d. r d + hits d s.next) w (closed_map sums by ty es) f (made_map sums by ty, entered_by sums es by ty of) (omega arith) tt refl
      (λ d other. (let no_hit = hits_other d s.next (λ z. other (sym z)) in omega arith, refl)) (omega (arith, none.0)) (sym none.1) (omega arith) in
      record {
        right = filled_right (added s (closed_map sums by ty es)) ty (λ d. r d + hits d s.next) w (added_filling s ty 0 r w f (closed_map sums by ty es) ty 0 (λ d. r d + hits d s.next) w next);
        others = undisturbed_added s ty 0 r w f (closed_map sums by ty es);
        holds = λ mode. closed_holds s (closed_map sums by ty es) mode refl;
      }

  -- ---- the data of an input

  given_right : (given : Given) (ty : NestedScalar) → IsTyped given → is_given_for ty given ≡ true → IsGiven s (added_given s given) ty r w
  given_right (Single x) ty of fit =
      let both = and_parts (same_type ty (scalar_type (scalar_of x))) (is_short x) fit in
      subst (λ t. IsGiven s (added_given s (Single x)) t r w) (sym (same_types ty (scalar_type (scalar_of x)) both.0)) (scalar_given x)
  given_right (Container by scalar es) ty of fit =
      let both = and_parts (same_type ty (container_of by (scalar_type scalar))) (are_members es) fit in
      let up = (and_parts (rises es) _ (and_parts (nat_le (length es) 1000) _ both.1).1).0 in
      subst (λ t. IsGiven s (added_given s (Container by scalar es)) t r w) (sym (same_types ty (container_of by (scalar_type scalar)) both.0)) (container_given by scalar es up of)
  given_right (Entries sums by scalar es) ty of fit =
      let both = and_parts (same_type ty (map_with sums by scalar)) (are_entries es) fit in
      subst (λ t. IsGiven s (added_given s (Entries sums by scalar es)) t r w) (sym (same_types ty (map_with sums by scalar) both.0)) (map_given sums by scalar es of)

  pub input_given : (i : Input) (ty : NestedScalar) → is_input_of ty i ≡ true → IsGiven s (with_input s ty i) ty r w
  input_given i ty fit = given_right (given_for ty i) ty (typed_for ty i) fit
