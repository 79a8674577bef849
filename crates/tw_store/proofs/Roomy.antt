-- Reserved memory is still there.
use Rattle.tw_store.proofs.Names.{Global, HaveOtherRoom, HaveRoom, KeepsOtherRooms, KeepsRooms, Notice, Queues, Served, Slab, Slot, VecDeque, ap, arith, data_room_of, eqb_tells, get_or, get_or-map, get_or-set_other, get_or-set_same, inl, inr, length, length-map, map-set, room_of, rooms_in, served_of, set, subst, sym, ℕ, ◌+◌, ◌<◌, ◌∙◌, ◌≡◌, ◌≢◌, ◌≤◌}

-- ---- notices

module _ (qs : Queues) (q w : VecDeque Notice Global) (server : ℕ) (inside : server < length qs) (here : q ≡ get_or qs server q) where
  room_was : get_or (rooms_in qs) server 0 ≡ room_of q
  room_was = get_or-map room_of qs server q 0 inside ∙ ap room_of (sym here)

  room_now : get_or (rooms_in (set qs server w)) server 0 ≡ room_of w
  room_now = ap (λ rs. get_or rs server 0) (map-set room_of qs server w) ∙ get_or-set_same (rooms_in qs) server (room_of w) 0 (omega (arith, inside, length-map qs room_of))

  room_other : (other : ℕ) → other ≢ server → get_or (rooms_in (set qs server w)) other 0 ≡ get_or (rooms_in qs) other 0
  room_other other apart = ap (λ rs. get_or rs other 0) (map-set room_of qs server w) ∙ get_or-set_other (rooms_in qs) server other (room_of w) 0 apart

  pub other_room : (count : ℕ) → room_of q ≤ room_of w + count → HaveOtherRoom server count qs (set qs server w)
  other_room count less = record {
    here = omega (arith, less, room_was, room_now);
    others = λ other apart. let same = room_other other apart in omega (arith, same);
  }

  pub have_room : room_of q ≤ room_of w → HaveRoom qs (set qs server w)
  have_room more other = elim (eqb_tells other server) as (λ _. get_or (rooms_in qs) other 0 ≤ get_or (rooms_in (set qs server w)) other 0) [
    | inl same ↦ subst (λ k. get_or (rooms_in qs) k 0 ≤ get_or (rooms_in (set qs server w)) k 0) (sym same.1) (omega (arith, more, room_was, room_now))
    | inr apart ↦ (let same = room_other other apart.1 in omega (arith, same))
  ]

-- ---- the store

module _ (slab : Slab Slot) (next : ℕ) (queues : Queues) (s : Served) (view : served_of slab next queues ≡ s) (slab2 : Slab Slot) (next2 : ℕ) (queues2 : Queues) (more : data_room_of slab ≤ data_room_of slab2) where
  pub rooms_kept : HaveRoom queues queues2 → KeepsRooms s (served_of slab2 next2 queues2)
  rooms_kept have = subst (λ (y : Served). KeepsRooms y (served_of slab2 next2 queues2)) view (record { for_data = more; for_notices = have })

  pub rooms_left : (server count : ℕ) → HaveOtherRoom server count queues queues2 → KeepsOtherRooms server count s (served_of slab2 next2 queues2)
  rooms_left server count have = subst (λ (y : Served). KeepsOtherRooms server count y (served_of slab2 next2 queues2)) view (record { for_data = more; here = have.here; others = have.others })

pub same_room : (queues : Queues) → HaveRoom queues queues
same_room queues server = omega arith

pub same_rooms : (s : Served) → KeepsRooms s s
same_rooms s = record { for_data = omega arith; for_notices = λ server. omega arith }
