-- Members of a container that the store returned, and the places of their data.
use Rattle.tw_store.proofs.Names.{AreSeated, IfNone, IfSome, IsSlotOf, KnowsPlaces, Member, None, Option, PlacedDatum, Queues, Served, Slab, Slot, Some, Subscript, ap, datum_if, datum_in, get, get_or, inl, inr, live_of, option_copied, places_of, served_of, subst, sym, ℕ, ◌∙◌, ◌≡◌, ◌≢◌, ◌⊎◌}
use Rattle.std.specs.Borrow.{Bor}
use Rattle.tw_store.proofs.Remain.{live_at, of_some, place_at}
use Rattle.tw_store.proofs.Shown.{IsFoundAt, IsNowhere, get_nowhere, search_slots, seat_of}

module _ (slab : Slab Slot) (next : ℕ) (queues : Queues) (s : Served) (view : served_of slab next queues ≡ s) (seated : AreSeated slab.slots next) where
  slot_knows : (place : ℕ) (slot : Slot) → get_or slab.slots place None ≡ Some slot → KnowsPlaces s slot.datum
  slot_knows place slot there subscript member has p live =
      let found = seat_of slab.slots p member.id seated.apart (ap (λ (x : Served). get x.places member.id) view ∙ live) in
      (seated.members place slot there subscript member has).1.only p found.slot found.there found.id_is

  -- the datum that is read at a place
  pub read_knows : (place : ℕ) (d : PlacedDatum) (slot : Slot) → get_or slab.slots place None ≡ Some slot → IfSome (get_or slab.slots place None) (λ e. d ≡ e.datum) → KnowsPlaces s d
  read_knows place d slot there at = subst (KnowsPlaces s) (sym (of_some (λ (e : Slot). d ≡ e.datum) _ slot there at)) (slot_knows place slot there)

  module _ (container : PlacedDatum) (knows : KnowsPlaces s container) (subscript : Subscript) (member : Member) (has : get container.members subscript ≡ Some member) where
    live_is : get (live_of slab.slots) member.id ≡ get s.store.live member.id
    live_is = ap (λ (y : Served). get y.store.live member.id) view

    -- its datum, if it is looked up
    pub member_is : (r : Option (Bor PlacedDatum)) → IfSome r (λ datum. IsSlotOf slab.slots member datum.now) → IfNone r ((e : Slot) → get_or slab.slots member.place None ≡ Some e → e.id ≢ member.id)
        → datum_if (option_copied r) ≡ get s.store.live member.id
    member_is (Some datum) found absent = sym (live_at slab.slots next member.place (record { id = member.id; datum = datum.now }) seated found.there) ∙ live_is
    member_is None found absent = sym (by (search_slots slab.slots member.id)) ∙ live_is
      where
        by : IsFoundAt slab.slots member.id ⊎ IsNowhere slab.slots member.id → get (live_of slab.slots) member.id ≡ None
        by (inl t) =
            let at : get s.places member.id ≡ Some t.place = ap (λ (y : Served). get y.places member.id) (sym view) ∙ ap (get (places_of slab.slots)) (sym t.id_is) ∙ place_at slab.slots next t.place t.slot seated t.there in
            let one : t.place ≡ member.place = knows subscript member has t.place at in
            absurd (absent t.slot (ap (λ p. get_or slab.slots p None) (sym one) ∙ t.there) t.id_is)
        by (inr n) = get_nowhere datum_in slab.slots member.id n

    -- it knows the places of its own members
    pub member_knows : (r : Option (Bor PlacedDatum)) → IfSome r (λ datum. IsSlotOf slab.slots member datum.now) → IfSome r (λ datum. KnowsPlaces s datum.now)
    member_knows (Some datum) found = slot_knows member.place (record { id = member.id; datum = datum.now }) found.there
    member_knows None found = tt
