-- A datum as it is stored: a member may have more than its id, such as the place of its datum.
use Rattle.std.specs.Prelude.{[], ◌≡◌, ℕ, ℤ, Bool, true, false, List, map as each, Option, Some, None, option_map, Result, Ok, Err, IsSome}
use Rattle.std.specs.Borrow.{Bor}
use Rattle.std.specs.FinMap as map
use Rattle.std.specs.FinMap.{FinMap}
use Rattle.tw_types.specs.Mapped.{mapped}
use Rattle.tw_types.specs.Nesting.{NestedScalar}
use Rattle.tw_types.specs.DataType.{is_container, is_map}
use Rattle.tw_types.specs.Store.{Content as Meaning, Unset, Set, Contains, Maps, Members, Values, Datum, new_datum}
use Rattle.tw_types.specs.StoreCalls.{entries_in, members_in, with_member}
use Rattle.tw_types.specs.TypedStore.{AreEntriesFor, AreSubscriptsFor}
use Rattle.tw_types.specs.ValueOrder.{Subscript, value_cmp}
use Rattle.tw_types.specs.declared.value.Value.TheVariants as value
use Rattle.tw_datum.specs.declared.datum.Content.{Content}
use Rattle.tw_datum.specs.declared.datum.Content.TheVariants as content

-- the members as stored, by their subscripts
abbrev pub KeptMembers : Type 0 → Type 0
KeptMembers M = FinMap value_cmp M

-- returns their ids
abbrev pub ids_of : {M : Type 0} → (M → ℕ) → KeptMembers M → Members
ids_of id members = mapped id members

-- holds for the members before and after an insertion at a free subscript; they stay if it is taken, or if an allocation fails
abbrev pub IsAddition : {M E : Type 0} → Result Bool E → Subscript → M → KeptMembers M → KeptMembers M → Type 0
IsAddition (Ok true) k v old new = (map.get old k ≡ None) × (new ≡ map.insert old k v)
IsAddition (Ok false) k v old new = IsSome (map.get old k) × (new ≡ old)
IsAddition (Err e) k v old new = (map.get old k ≡ None) × (new ≡ old)

-- a datum, and its members as stored
pub record KeptDatum (M : Type 0) : Type 0 where
  pub datum : Datum
  pub members : KeptMembers M

-- returns the datum, if there is one
abbrev pub datum_if : {M : Type 0} → Option (KeptDatum M) → Option Datum
datum_if r = option_map (λ d. d.datum) r

-- returns the id of a member, with its subscript
abbrev pub bare : {M : Type 0} → (M → ℕ) → Subscript × M → Subscript × ℕ
bare id e = (e.0, id e.1)

-- like `bare`, when the subscript is borrowed
abbrev pub borrowed_entry : {S : Type 0} → Bor S × ℕ → S × ℕ
borrowed_entry e = (e.0.now, e.1)

-- returns the entry if its subscript is an integer
abbrev pub by_int : Subscript × ℕ → Option (ℤ × ℕ)
by_int e = of_subscript e.0
  where
    of_subscript : Subscript → Option (ℤ × ℕ)
    of_subscript (value.Int n) = Some (n, e.1)
    of_subscript (value.Text _) = None

-- returns a datum without members
abbrev pub new_kept : {M : Type 0} → NestedScalar → KeptDatum M
new_kept ty = record { datum = new_datum ty; members = map.empty }

abbrev pub with_kept_member : {M : Type 0} → (M → ℕ) → Subscript → M → KeptDatum M → KeptDatum M
with_kept_member id subscript member d = record { datum = with_member subscript (id member) d.datum; members = map.insert d.members subscript member }

-- holds for the datum before and after an insertion at a free subscript; it stays if that is taken, or if an allocation fails
abbrev pub IsMemberAdded : {M E : Type 0} → (M → ℕ) → Result Bool E → Subscript → M → KeptDatum M → KeptDatum M → Type 0
IsMemberAdded id (Ok true) k v old new = (map.get (members_in old.datum.content) k ≡ None) × (new ≡ with_kept_member id k v old)
IsMemberAdded id (Ok false) k v old new = IsSome (map.get (members_in old.datum.content) k) × (new ≡ old)
IsMemberAdded id (Err e) k v old new = (map.get (members_in old.datum.content) k ≡ None) × (new ≡ old)

-- returns a datum with one read and no write
abbrev pub closed_datum : NestedScalar → Meaning → Datum
closed_datum ty content = record { ty = ty; content = content; reads = 1; writes = 0; subscribers = [] }

-- ---- the code's types

abbrev pub content_of : {M : Type 0} → (M → ℕ) → Content M → Meaning
content_of id content.Unset = Unset
content_of id (content.Set value) = Set value
content_of id (content.Contains members) = Contains (ids_of id members)
content_of id (content.Maps values) = Maps values

abbrev pub members_kept : {M : Type 0} → Content M → KeptMembers M
members_kept content.Unset = map.empty
members_kept (content.Set value) = map.empty
members_kept (content.Contains members) = members
members_kept (content.Maps values) = map.empty

abbrev pub has_members : Meaning → Bool
has_members Unset = false
has_members (Set _) = false
has_members (Contains _) = true
has_members (Maps _) = false

abbrev pub has_entries : Meaning → Bool
has_entries Unset = false
has_entries (Set _) = false
has_entries (Contains _) = false
has_entries (Maps _) = true

-- holds if only a container has members and only a map has values, and these and the subscripts are of its type
abbrev pub FitsType : NestedScalar → Meaning → Type 0
FitsType ty content =
    ((has_members content ≡ is_container ty) × (has_entries content ≡ is_map ty))
    × (AreSubscriptsFor ty (members_in content) × AreEntriesFor ty (entries_in content))

-- holds for the members of a datum; a scalar and a map have none
abbrev pub AreMembers : {M : Type 0} → (M → ℕ) → KeptDatum M → Option (KeptMembers M) → Type 0
AreMembers id d None = (members_in d.datum.content ≡ map.empty) × (d.members ≡ map.empty)
AreMembers id d (Some members) = (members_in d.datum.content ≡ ids_of id members) × (d.members ≡ members)

-- holds for the values of a datum; a scalar and a container have none
abbrev pub AreValues : {M : Type 0} → KeptDatum M → Option Values → Type 0
AreValues d None = entries_in d.datum.content ≡ map.empty
AreValues d (Some values) = entries_in d.datum.content ≡ values

-- returns the ids of members, if there are any
abbrev pub ids_if : {M : Type 0} → (M → ℕ) → Option (KeptMembers M) → List ℕ
ids_if id None = []
ids_if id (Some members) = each id (map.values members)
