-- When a rule of an engine can be added without an allocation.
use Rattle.tw_rules.proofs.Names.{Agenda, AreAsks, AreReleases, Bool, IsAgenda, IsFirstAskable, IsIndexed, IsLeastPending, IsSameAgenda, List, Rules, [], agenda_room, and_from, and_parts, arith, false, get_or, get_set_other, get_set_same, has_place, inl, inr, lt_test, nat_lt, refl, rooms_of, same_or_apart, slice_get_within, slice_set, subst, suc, sym, test_lt, true, unsome, zero, ℕ, ◌<◌, ◌∙◌, ◌∷◌, ◌≡◌, ◌≤◌}
use Rattle.std.specs.Prelude.{Some, slice_get}
use Rattle.tw_rules.proofs.Changes.{all_agendas}

pub record HasRoom (has : Bool) (agendas : List Agenda) (engine : ℕ) : Type 0 where
  pub agenda : Agenda
  pub at : slice_get agendas engine ≡ Some agenda
  pub place : has ≡ true
  pub room : agenda_room agenda ≡ true

pub has_room : (has : Bool) (agendas : List Agenda) (engine : ℕ) → get_or (rooms_of has agendas) engine false ≡ true → HasRoom has agendas engine
has_room has [] engine h = cc
has_room has (a ∷ agendas) zero h = record { agenda = a; at = refl; place = (and_parts has _ h).0; room = (and_parts has _ h).1 }
has_room has (a ∷ agendas) (suc engine) h = let rest = has_room has agendas engine h in record { agenda = rest.agenda; at = rest.at; place = rest.place; room = rest.room }

pub room_is : (has : Bool) (agendas : List Agenda) (engine : ℕ) (agenda : Agenda) → slice_get agendas engine ≡ Some agenda → has ≡ true → agenda_room agenda ≡ true → get_or (rooms_of has agendas) engine false ≡ true
room_is has [] engine agenda at place room = cc
room_is has (a ∷ agendas) zero agenda at place room = let same : a ≡ agenda = cc in and_from _ _ place (subst (λ x. agenda_room x ≡ true) (sym same) room)
room_is has (a ∷ agendas) (suc engine) agenda at place room = room_is has agendas engine agenda at place room

-- if the agendas are the same
pub room_same : (old new : Bool) (agendas : List Agenda) → (old ≡ true → new ≡ true) → (engine : ℕ) → get_or (rooms_of old agendas) engine false ≡ true → get_or (rooms_of new agendas) engine false ≡ true
room_same old new agendas kept engine h = let is = has_room old agendas engine h in room_is new agendas engine is.agenda is.at (kept is.place) is.room

-- one agenda is another
pub room_kept : (old new : Bool) (agendas : List Agenda) (at : ℕ) (was after : Agenda) → slice_get agendas at ≡ Some was → (old ≡ true → new ≡ true) → (agenda_room was ≡ true → agenda_room after ≡ true)
    → (engine : ℕ) → get_or (rooms_of old agendas) engine false ≡ true → get_or (rooms_of new (slice_set agendas at after)) engine false ≡ true
room_kept old new agendas at was after there kept more engine h = elim (same_or_apart engine at) [
  | inl same ↦
      let one : was ≡ is.agenda = unsome (sym there ∙ subst (λ k. slice_get agendas k ≡ Some is.agenda) same is.at) in
      room_is new (slice_set agendas at after) engine after
      (subst (λ k. slice_get (slice_set agendas at after) k ≡ Some after) (sym same) (get_set_same agendas at after (slice_get_within agendas at was there)))
      (kept is.place) (more (subst (λ x. agenda_room x ≡ true) (sym one) is.room))
  | inr apart ↦ room_is new (slice_set agendas at after) engine is.agenda (get_set_other agendas at engine after apart ∙ is.at) (kept is.place) is.room
]
  where
    is : HasRoom old agendas engine
    is = has_room old agendas engine h

-- ---- places

pub place_kept : (spare len capacity spare' len' capacity' : ℕ) → spare ≤ spare' → len' ≤ len → capacity ≤ capacity' → has_place spare len capacity ≡ true → has_place spare' len' capacity' ≡ true
place_kept spare len capacity spare' len' capacity' a b d h =
    let some : 0 < spare = test_lt _ _ (and_parts _ _ h).0 in
    let more : len < capacity = test_lt _ _ (and_parts (nat_lt 0 spare) _ h).1 in
    and_from _ _ (lt_test 0 spare' (omega arith)) (lt_test len' capacity' (omega arith))

pub place_spare : (spare len capacity : ℕ) → has_place spare len capacity ≡ true → 0 < spare
place_spare spare len capacity h = test_lt _ _ (and_parts _ _ h).0

pub place_capacity : (spare len capacity : ℕ) → has_place spare len capacity ≡ true → len < capacity
place_capacity spare len capacity h = test_lt _ _ (and_parts (nat_lt 0 spare) _ h).1

-- ---- an agenda with the same rules

pub same_agenda : (engine : ℕ) (rules : Rules) (next : ℕ) (old new : Agenda) → IsSameAgenda old new → IsAgenda engine rules next old → IsAgenda engine rules next new
same_agenda engine rules next old new same is = record {
  asks = subst (AreAsks engine rules next) (sym same.asks) is.asks;
  asked = subst (IsFirstAskable rules) (sym same.asks) is.asked;
  releases = subst (AreReleases engine rules next) (sym same.releases) is.releases;
  released = subst (IsLeastPending rules) (sym same.releases) is.released;
  promised = is.promised ∙ sym same.promised;
}

pub index_same : (rules : Rules) (next : ℕ) (agendas : List Agenda) (engine : ℕ) (old new : Agenda) → IsIndexed rules next agendas → engine < 4 → slice_get agendas engine ≡ Some old → IsSameAgenda old new → IsIndexed rules next (slice_set agendas engine new)
index_same rules next agendas engine old new is low at same =
    all_agendas rules rules next next agendas engine new is low (same_agenda engine rules next old new same (is.each_engine engine old at)) (λ e apart agenda own. own) is.known
