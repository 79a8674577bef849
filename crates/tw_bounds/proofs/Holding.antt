-- Bounds on the members and texts that a change of a store adds.
use Rattle.tw_bounds.proofs.Names.{Bool, Contains, Content, Data, Datum, List, Maps, Members, None, Ok, Option, Scalar, Set, Some, Store, Subscript, Unset, Value, Values, WrongType, [], added, and_parts, ap, arith, by_container, changed, cond, container_only, contains_key, count_in, created, drop_read_within, entries_in, false, fold, get, has_subscripts_by, if◌then◌else◌, insert, inserted, is_closed, is_container_by, is_element_of, is_map, is_map_by, is_map_of, is_map_to_texts, is_plain_map, is_scalar, is_sums, is_text, is_text_scalar, is_unheld, len, len-empty, len-insert, may_add, may_insert, may_put, member_count, members_held, members_in, members_of, must_then, nat_cmp, nat_cmp-IsAntisymmetric, nat_cmp_total, new_datum, one_write_less, read_dropped, read_taken_by, refl, remove, same_Some, same_scalar, same_scalars, scalar_of, set_to, settled_by, store_after, subscribers_cleared, subst, suc, sum_apart, sum_replaced, sym, text_count, texts_stored, total, total-insert, true, value_cmp, value_put, with_entry, with_member, zero, ℕ, ◌&&◌, ◌+◌, ◌-◌, ◌==◌, ◌∷◌, ◌≡◌, ◌≤◌}
use Rattle.std.specs.FinMap as fin
use Rattle.tw_types.specs.declared.data_type.Scalar.TheVariants as scalar
use Rattle.tw_types.specs.Nesting.{NestedScalar}
use Rattle.tw_types.specs.declared.data_type.MapKind.{MapKind}
use Rattle.tw_types.specs.declared.data_type.MapKind.TheVariants as kinds
use Rattle.tw_types.proofs.ValueOrder.{value_cmp_total}

-- ---- a sum over the live data, by types and contents

abbrev IsByContent : (Datum → ℕ) → Type 0
IsByContent g = (x y : Datum) → y.ty ≡ x.ty → y.content ≡ x.content → g y ≡ g x

module _ (g : Datum → ℕ) (alike : IsByContent g) where
  abbrev Loses : (Data → ℕ → Data) → Type 0
  Loses drop = (live : Data) (id : ℕ) → total g (drop live id) ≤ total g live

  all_lose : (drop : Data → ℕ → Data) → Loses drop → (ids : List ℕ) (live : Data) → total g (fold drop live ids) ≤ total g live
  all_lose drop loses [] live = omega arith
  all_lose drop loses (id ∷ ids) live = let one = loses live id in let rest = all_lose drop loses ids (drop live id) in omega (arith, one, rest)

  settled_total : (drop : Data → ℕ → Data) → Loses drop → (live : Data) (id : ℕ) (x y : Datum) → get live id ≡ Some x → total g (settled_by drop live id y) + g x ≤ total g live + g y
  settled_total drop loses live id x y at = by (is_unheld y)
    where
      by : (b : Bool) → total g (if b then fold drop (remove live id) (members_of y.content) else insert live id y) + g x ≤ total g live + g y
      by true =
          let freed = all_lose drop loses (members_of y.content) (remove live id) in
          let apart = sum_apart nat_cmp nat_cmp_total nat_cmp-IsAntisymmetric g live id x at in
          omega (arith, freed, apart)
      by false = let put = sum_replaced nat_cmp nat_cmp_total nat_cmp-IsAntisymmetric g live id x y at in omega (arith, put)

  taken_loses : (drop : Data → ℕ → Data) → Loses drop → Loses (λ live id. read_taken_by drop live id (get live id))
  taken_loses drop loses live id = found (get live id) refl
    where
      found : (o : Option Datum) → get live id ≡ o → total g (read_taken_by drop live id o) ≤ total g live
      found None at = omega arith
      found (Some x) at = by (x.reads == 0)
        where
          by : (b : Bool) → total g (if b then live else settled_by drop live id (record x { reads = x.reads - 1 })) ≤ total g live
          by true = omega arith
          by false =
              let h = settled_total drop loses live id x (record x { reads = x.reads - 1 }) at in
              let same = alike x (record x { reads = x.reads - 1 }) refl refl in
              omega (arith, h, same)

  drops_lose : (depth : ℕ) → Loses (drop_read_within depth)
  drops_lose zero = taken_loses (λ live _. live) (λ live id. omega arith)
  drops_lose (suc depth) = taken_loses (drop_read_within depth) (drops_lose depth)

  cleared_same : (x : Datum) → g (subscribers_cleared x) ≡ g x
  cleared_same x = by (is_closed x)
    where
      by : (b : Bool) → g (if b then record x { subscribers = [] } else x) ≡ g x
      by true = alike x (record x { subscribers = [] }) refl refl
      by false = refl

  -- one datum changes, and has at most so many more
  changed_total : (s : Store) (id : ℕ) (f : Datum → Datum) (more : ℕ) → ((x : Datum) → get s.live id ≡ Some x → g (f x) ≤ g x + more) → total g (changed s id f).live ≤ total g s.live + more
  changed_total s id f more grows = by (get s.live id) refl
    where
      by : (o : Option Datum) → get s.live id ≡ o → total g (changed s id f).live ≤ total g s.live + more
      by None at = rw at (omega arith)
      by (Some x) at =
          let put = sum_replaced nat_cmp nat_cmp_total nat_cmp-IsAntisymmetric g s.live id x (f x) at in
          let few = grows x at in
          rw at (omega (arith, put, few))

  -- one datum changes, has no more, and may be freed
  after_total : (s : Store) (id : ℕ) (f : Datum → Datum) → ((x : Datum) → g (f x) ≤ g x) → total g (store_after s id f).live ≤ total g s.live
  after_total s id f keeps = by (get s.live id) refl
    where
      by : (o : Option Datum) → get s.live id ≡ o → total g (store_after s id f).live ≤ total g s.live
      by None at = rw at (omega arith)
      by (Some x) at =
          let put = settled_total (drop_read_within 2) (drops_lose 2) s.live id x (subscribers_cleared (f x)) at in
          let cleared = cleared_same (f x) in
          let few = keeps x in
          rw at (omega (arith, put, cleared, few))

  new_total : (s : Store) (x : Datum) → total g (added s x).live ≤ total g s.live + g x
  new_total s x = let put = total-insert nat_cmp nat_cmp_total g s.live s.next x in omega (arith, put)

-- ---- members and texts

by_member_count : IsByContent member_count
by_member_count x y ty content = rw content refl

by_text_count : IsByContent text_count
by_text_count x y ty content = rw (ty, content) refl

abbrev pub one_if : Bool → ℕ
one_if b = if b then 1 else 0

-- how many members and texts the later store holds more, at most
pub record Gains (members texts : ℕ) (s t : Store) : Type 0 where
  pub new_members : members_held t ≤ members_held s + members
  pub new_texts : texts_stored t ≤ texts_stored s + texts

pub no_gain : (members texts : ℕ) (s : Store) → Gains members texts s s
no_gain members texts s = record { new_members = omega arith; new_texts = omega arith }

pub more_gains : (members texts others : ℕ) (s t : Store) → others ≡ texts → Gains members others s t → Gains members texts s t
more_gains members texts others s t e gains = record { new_members = gains.new_members; new_texts = omega (arith, gains.new_texts, e) }

pub changed_gains : (s : Store) (id : ℕ) (f : Datum → Datum) → ((x : Datum) → (f x).ty ≡ x.ty) → ((x : Datum) → (f x).content ≡ x.content) → Gains 0 0 s (changed s id f)
changed_gains s id f ty content = record {
  new_members = changed_total member_count by_member_count s id f 0 (λ x at. let e = by_member_count x (f x) (ty x) (content x) in omega (arith, e));
  new_texts = changed_total text_count by_text_count s id f 0 (λ x at. let e = by_text_count x (f x) (ty x) (content x) in omega (arith, e));
}

pub write_dropped_gains : (s : Store) (id : ℕ) → Gains 0 0 s (store_after s id one_write_less)
write_dropped_gains s id = record {
  new_members = let h = after_total member_count by_member_count s id one_write_less (λ x. omega arith) in omega (arith, h);
  new_texts = let h = after_total text_count by_text_count s id one_write_less (λ x. omega arith) in omega (arith, h);
}

pub stored_gains : (s : Store) (id : ℕ) (x : Value) → Gains 0 0 s (store_after s id (set_to x))
stored_gains s id x = record {
  new_members = let h = after_total member_count by_member_count s id (set_to x) few in omega (arith, h);
  new_texts = let h = after_total text_count by_text_count s id (set_to x) (λ d. omega (arith, no_more (has_subscripts_by scalar.Text d.ty) (member_count d), no_more (is_map_to_texts d.ty) (member_count d))) in omega (arith, h);
}
  where
    few : (d : Datum) → member_count (set_to x d) ≤ member_count d
    few d = omega arith

    no_more : (b : Bool) (n : ℕ) → (if b then 0 else 0) ≤ (if b then n else 0)
    no_more true n = omega arith
    no_more false n = omega arith

pub read_dropped_gains : (s : Store) (id : ℕ) → Gains 0 0 s (read_dropped s id)
read_dropped_gains s id = record {
  new_members = let h = drops_lose member_count by_member_count 3 s.live id in omega (arith, h);
  new_texts = let h = drops_lose text_count by_text_count 3 s.live id in omega (arith, h);
}

no_members : (ty : NestedScalar) → member_count (new_datum ty) ≡ 0
no_members ty = by (is_scalar ty) (is_map ty)
  where
    by : (b c : Bool) → count_in (if b then Unset else if c then Maps fin.empty else Contains fin.empty) ≡ 0
    by true c = refl
    by false true = len-empty value_cmp Value
    by false false = len-empty value_cmp ℕ

pub created_gains : (s : Store) (ty : NestedScalar) → Gains 0 (one_if (is_text_scalar ty)) s (created s ty)
created_gains s ty = record {
  new_members = let h = new_total member_count by_member_count s (new_datum ty) in omega (arith, h, none);
  new_texts = let h = new_total text_count by_text_count s (new_datum ty) in omega (arith, h, by (has_subscripts_by scalar.Text ty), by (is_map_to_texts ty));
}
  where
    none : member_count (new_datum ty) ≡ 0
    none = no_members ty

    by : (b : Bool) → (if b then member_count (new_datum ty) else 0) ≡ 0
    by true = none
    by false = refl

one_more_member : (members : Members) (subscript : Subscript) (member : ℕ) → len (insert members subscript member) ≤ len members + 1
one_more_member members subscript member = let l = len-insert value_cmp_total members subscript member in omega (arith, l, either (contains_key members subscript) (len members))
  where
    either : (b : Bool) (n : ℕ) → cond b n (n + 1) ≤ n + 1
    either true n = omega arith
    either false n = omega arith

members_within : (content : Content) → len (members_in content) ≤ count_in content
members_within Unset = omega (arith, len-empty value_cmp ℕ)
members_within (Set x) = omega (arith, len-empty value_cmp ℕ)
members_within (Contains members) = omega arith
members_within (Maps values) = omega (arith, len-empty value_cmp ℕ)

-- the subscripts of a container are of the instruction's type
subscripts_by : (by : Scalar) (o member : Option Datum) (x : Datum) → o ≡ Some x → may_insert by o member ≡ Ok tt → is_container_by by x.ty ≡ true
subscripts_by by None member x at may = cc
subscripts_by by (Some y) None x at may = cc
subscripts_by by (Some y) (Some z) x at may =
    let checks = must_then (is_container_by by y.ty && is_element_of z.ty y.ty) WrongType _ tt may in
    let both = and_parts (is_container_by by y.ty) (is_element_of z.ty y.ty) checks.0 in
    subst (λ (d : Datum). is_container_by by d.ty ≡ true) (same_Some y x at) both.0

int_not_text : (ty : NestedScalar) → is_container_by scalar.Int ty ≡ true → is_container_by scalar.Text ty ≡ false
int_not_text ty e = by ty.containers e
  where
    by : (containers : List Scalar) → is_container_by scalar.Int (record ty { containers = containers }) ≡ true → is_container_by scalar.Text (record ty { containers = containers }) ≡ false
    by [] e = cc
    by (scalar.Int ∷ inner) e = refl
    by (scalar.Text ∷ inner) e = cc

-- where one more adds a text
one_text : (b : Bool) (before after : ℕ) → after ≤ before + 1 → (if b then after else 0) ≤ (if b then before else 0) + one_if b
one_text true before after more = omega (arith, more)
one_text false before after more = omega arith

-- the subscripts of a container are texts if the instruction's are; its members aren't counted
container_texts : (by : Scalar) (ty : NestedScalar) → is_container_by by ty ≡ true → (has_subscripts_by scalar.Text ty ≡ is_text by) × (is_map_to_texts ty ≡ false)
container_texts by ty is =
    let plain = (container_only ty (by_container by ty is)).1 in
    (at by is plain, rw plain refl)
  where
    at : (by : Scalar) → is_container_by by ty ≡ true → is_map ty ≡ false → has_subscripts_by scalar.Text ty ≡ is_text by
    at scalar.Int is plain = rw (int_not_text ty is, plain) refl
    at scalar.Text is plain = rw is refl

pub inserted_gains : (s : Store) (id : ℕ) (by : Scalar) (at : Subscript) (inner : ℕ) (member : Option Datum) → may_insert by (get s.live id) member ≡ Ok tt → Gains 1 (one_if (is_text by)) s (inserted s id at inner)
inserted_gains s id by at inner member may = record {
  new_members = changed_total member_count by_member_count s id (with_member at inner) 1 more;
  new_texts = changed_total text_count by_text_count s id (with_member at inner) (one_if (is_text by)) (λ x here.
      let same = container_texts by x.ty (subscripts_by by (get s.live id) member x here may) in
      let few = one_text (has_subscripts_by scalar.Text x.ty) (member_count x) (member_count (with_member at inner x)) (more x here) in
      omega (arith, few, ap one_if same.0, ap (λ (b : Bool). if b then member_count (with_member at inner x) else 0) same.1));
}
  where
    more : (x : Datum) → get s.live id ≡ Some x → member_count (with_member at inner x) ≤ member_count x + 1
    more x here = omega (arith, one_more_member (members_in x.content) at inner, members_within x.content)

-- ---- values of maps

one_more_value : (values : Values) (subscript : Subscript) (x : Value) → len (insert values subscript x) ≤ len values + 1
one_more_value values subscript x = let l = len-insert value_cmp_total values subscript x in omega (arith, l, either (contains_key values subscript) (len values))
  where
    either : (b : Bool) (n : ℕ) → cond b n (n + 1) ≤ n + 1
    either true n = omega arith
    either false n = omega arith

values_within : (content : Content) → len (entries_in content) ≤ count_in content
values_within Unset = omega (arith, len-empty value_cmp Value)
values_within (Set x) = omega (arith, len-empty value_cmp Value)
values_within (Contains members) = omega (arith, len-empty value_cmp Value)
values_within (Maps values) = omega arith

same_text : (a b : Scalar) → same_scalar a b ≡ true → is_text b ≡ is_text a
same_text a b e = ap is_text (sym (same_scalars a b e))

-- the subscripts of a map are texts if the instruction's are
map_subscripts : (by : Scalar) (ty : NestedScalar) → is_map_by by ty ≡ true → has_subscripts_by scalar.Text ty ≡ is_text by
map_subscripts by ty h = at ty.containers ty.map h
  where
    text_is : (a b : Scalar) → same_scalar a b ≡ true → same_scalar scalar.Text b ≡ is_text a
    text_is scalar.Int scalar.Int e = refl
    text_is scalar.Int scalar.Text e = cc
    text_is scalar.Text scalar.Int e = cc
    text_is scalar.Text scalar.Text e = refl

    at : (containers : List Scalar) (kind : MapKind) → is_map_by by (record ty { containers = containers; map = kind }) ≡ true → has_subscripts_by scalar.Text (record ty { containers = containers; map = kind }) ≡ is_text by
    at [] kinds.NoMap h = cc
    at [] (kinds.Values own) h = text_is by own h
    at [] (kinds.Sums own) h = text_is by own h
    at (own ∷ inner) kind h = cc

-- so are its values
map_texts : (by value : Scalar) (ty : NestedScalar) → is_map_of by value ty ≡ true → (has_subscripts_by scalar.Text ty ≡ is_text by) × (is_map_to_texts ty ≡ is_text value)
map_texts by value ty h =
    let both = and_parts (is_map_by by ty) (same_scalar value ty.scalar) h in
    let mapped : is_map ty ≡ true = (and_parts (is_map ty) _ both.0).0 in
    (map_subscripts by ty both.0, rw mapped (same_text value ty.scalar both.1))

-- the map of a call that puts a value
pub put_kind : (at x : Value) (o : Option Datum) → may_put at x o ≡ Ok tt → (d : Datum) → o ≡ Some d → is_map_of (scalar_of at) (scalar_of x) d.ty ≡ true
put_kind at x None may d e = cc
put_kind at x (Some y) may d e =
    let checks = must_then (is_plain_map y.ty && is_map_of (scalar_of at) (scalar_of x) y.ty) WrongType _ tt may in
    subst (λ (z : Datum). is_map_of (scalar_of at) (scalar_of x) z.ty ≡ true) (same_Some y d e) (and_parts (is_plain_map y.ty) _ checks.0).1

pub add_kind : (at : Value) (o : Option Datum) → may_add at o ≡ Ok tt → (d : Datum) → o ≡ Some d → is_map_of (scalar_of at) scalar.Int d.ty ≡ true
add_kind at None may d e = cc
add_kind at (Some y) may d e =
    let checks = must_then (is_sums y.ty && is_map_of (scalar_of at) scalar.Int y.ty) WrongType _ tt may in
    subst (λ (z : Datum). is_map_of (scalar_of at) scalar.Int z.ty ≡ true) (same_Some y d e) (and_parts (is_sums y.ty) _ checks.0).1

pub put_gains : (s : Store) (id : ℕ) (at x : Value) → ((d : Datum) → get s.live id ≡ Some d → is_map_of (scalar_of at) (scalar_of x) d.ty ≡ true) → Gains 1 (one_if (is_text (scalar_of at)) + one_if (is_text (scalar_of x))) s (value_put s id at x)
put_gains s id at x kind = record {
  new_members = changed_total member_count by_member_count s id (with_entry at x) 1 more;
  new_texts = changed_total text_count by_text_count s id (with_entry at x) (one_if (is_text (scalar_of at)) + one_if (is_text (scalar_of x))) (λ d here.
      let same = map_texts (scalar_of at) (scalar_of x) d.ty (kind d here) in
      let named = one_text (has_subscripts_by scalar.Text d.ty) (member_count d) (member_count (with_entry at x d)) (more d here) in
      let valued = one_text (is_map_to_texts d.ty) (member_count d) (member_count (with_entry at x d)) (more d here) in
      omega (arith, named, valued, ap one_if same.0, ap one_if same.1));
}
  where
    more : (d : Datum) → get s.live id ≡ Some d → member_count (with_entry at x d) ≤ member_count d + 1
    more d here = omega (arith, one_more_value (entries_in d.content) at x, values_within d.content)
