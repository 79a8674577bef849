-- Slots of data, each with its id, seen as two maps: from each id to its datum, and to its place.
use Rattle.std.specs.Prelude.{◌≡◌, ◌<◌, ℕ, suc, List, [], ◌∷◌, Option, Some, None, IsSome, Result, Ok, Err, Bool, true, false, slice_index_or}
use Rattle.std.specs.Ordering.{nat_cmp}
use Rattle.std.specs.FinMap.{FinMap, from_entries, get}
use Rattle.tw_types.specs.Store.{Data, Datum, Store}
use Rattle.tw_types.specs.StoreCalls.{changed, store_after, members_in, with_member}
use Rattle.tw_types.specs.ValueOrder.{Subscript}
use Rattle.tw_store.specs.declared.member.Member.{Member}
use Rattle.tw_store.specs.declared.slot.Slot.{Slot}
use Rattle.tw_store.specs.Placed.{PlacedDatum, PlacedMembers}

abbrev pub Slots : Type 0
Slots = List (Option Slot)

abbrev pub slot_at : Slots → ℕ → Option Slot
slot_at slots place = slice_index_or slots place None

-- returns g of each slot that is taken, with its id; the first slot has place k
abbrev pub shown : {Y : Type 0} → (ℕ → Slot → Y) → ℕ → Slots → List (ℕ × Y)
shown g k [] = []
shown g k (None ∷ slots) = shown g (suc k) slots
shown g k (Some e ∷ slots) = (e.id, g k e) ∷ shown g (suc k) slots

abbrev pub datum_in : ℕ → Slot → Datum
datum_in place slot = slot.datum.datum

abbrev pub live_of : Slots → Data
live_of slots = from_entries (shown datum_in 0 slots)

-- the places of data, by their ids
abbrev pub Places : Type 0
Places = FinMap nat_cmp ℕ

abbrev pub place_in : ℕ → Slot → ℕ
place_in place slot = place

abbrev pub places_of : Slots → Places
places_of slots = from_entries (shown place_in 0 slots)

-- ---- properties of the slots

-- holds if no id is in two slots
abbrev pub AreApart : Slots → Type 0
AreApart slots = (p q : ℕ) (e f : Slot) → slot_at slots p ≡ Some e → slot_at slots q ≡ Some f → e.id ≡ f.id → p ≡ q

-- the datum of the id is at no other place
pub record IsAt (slots : Slots) (id place : ℕ) : Type 0 where
  pub only : (q : ℕ) (e : Slot) → slot_at slots q ≡ Some e → e.id ≡ id → q ≡ place

-- holds if each member has its place, and an id below `next`
abbrev pub AllAt : Slots → ℕ → PlacedMembers → Type 0
AllAt slots next members = (k : Subscript) (m : Member) → get members k ≡ Some m → (m.id < next) × IsAt slots m.id m.place

pub record AreSeated (slots : Slots) (next : ℕ) : Type 0 where
  pub apart : AreApart slots
  pub below : (p : ℕ) (e : Slot) → slot_at slots p ≡ Some e → e.id < next
  pub members : (p : ℕ) (e : Slot) → slot_at slots p ≡ Some e → AllAt slots next e.datum.members

-- the datum of the id is at the place
pub record IsAtPlace (slots : Slots) (id place : ℕ) : Type 0 where
  pub slot : Slot
  pub there : slot_at slots place ≡ Some slot
  pub id_is : slot.id ≡ id

-- the datum of the member is at its place
pub record IsSlotOf (slots : Slots) (member : Member) (datum : PlacedDatum) : Type 0 where
  pub there : slot_at slots member.place ≡ Some (record { id = member.id; datum = datum })

-- ---- effects of a call

-- the slot had a datum before, with the same id and members
pub record WasThere (old : Slots) (q : ℕ) (f : Slot) : Type 0 where
  pub slot : Slot
  pub there : slot_at old q ≡ Some slot
  pub id_is : f.id ≡ slot.id
  pub members : f.datum.members ≡ slot.datum.members

-- data that are left were there before
pub record Remains (old new : Slots) : Type 0 where
  pub each : (q : ℕ) (f : Slot) → slot_at new q ≡ Some f → WasThere old q f

-- the datum of the id is f of it; all others, and all places, are unchanged
pub record IsChanged (next id : ℕ) (f : Datum → Datum) (old new : Slots) : Type 0 where
  pub live : (s : Store) → s.live ≡ live_of old → record s { live = live_of new } ≡ changed s id f
  pub places : places_of new ≡ places_of old
  pub seated : AreSeated new next

-- like `IsChanged`, for the datum at the place, if there is one
abbrev pub IsChangedAt : ℕ → (Datum → Datum) → Slots → Slots → Type 0
IsChangedAt place f old new = (next : ℕ) (e : Slot) → AreSeated old next → slot_at old place ≡ Some e → IsChanged next e.id f old new

-- hold if the datum at the place has no member at the subscript, or has one
abbrev pub HasNoneAt : ℕ → Subscript → Slots → Type 0
HasNoneAt place k slots = (e : Slot) → slot_at slots place ≡ Some e → get (members_in e.datum.datum.content) k ≡ None

abbrev pub HasOneAt : ℕ → Subscript → Slots → Type 0
HasOneAt place k slots = (e : Slot) → slot_at slots place ≡ Some e → IsSome (get (members_in e.datum.datum.content) k)

-- holds if the member was inserted at the subscript; or nothing changed, because it is taken or an allocation failed
abbrev pub IsInsertedAt : {E : Type 0} → ℕ → Subscript → ℕ → Result Bool E → Slots → Slots → Type 0
IsInsertedAt place k id (Ok true) old new = HasNoneAt place k old × IsChangedAt place (with_member k id) old new
IsInsertedAt place k id (Ok false) old new = HasOneAt place k old × (new ≡ old)
IsInsertedAt place k id (Err e) old new = HasNoneAt place k old × (new ≡ old)

-- the datum of the id is f of it, and may be freed by that; data that are left keep their places
pub record IsSettled (id : ℕ) (f : Datum → Datum) (old new : Slots) : Type 0 where
  pub live : (s : Store) → s.live ≡ live_of old → record s { live = live_of new } ≡ store_after s id f
  pub remains : Remains old new
