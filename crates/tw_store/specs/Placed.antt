-- A datum as the store has it: next to the id of each member is its place.
use Rattle.std.specs.Prelude.{ℕ, List, map as each}
use Rattle.tw_datum.specs.Kept.{KeptDatum, KeptMembers}
use Rattle.tw_store.specs.declared.member.Member.{Member}

-- the members, by their subscripts
abbrev pub PlacedMembers : Type 0
PlacedMembers = KeptMembers Member

-- a datum, and its members with their places
abbrev pub PlacedDatum : Type 0
PlacedDatum = KeptDatum Member

abbrev pub id_of : Member → ℕ
id_of m = m.id

abbrev pub ids_in : List Member → List ℕ
ids_in members = each id_of members
