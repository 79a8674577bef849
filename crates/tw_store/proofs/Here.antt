use Rattle.tw_store.proofs.Names.{AreSeated, Bool, Datum, Err, HasMemberRoom, HasNoticeRoom, HasReadRoom, HaveOtherRoom, HaveRoom, IfNone, IfOk, IfSome, IsAtPlace, IsChanged, IsChangedAt, IsHere, IsLeft, IsNow, IsSettled, IsSome, IsUnchanged, KeepsOtherRooms, KeepsPlaces, List, Member, None, Notice, Ok, OnErr, OnOk, Option, PlacedDatum, Queues, Remains, Result, Right, Served, Slab, Slot, Slots, Some, Store, Subscriber, Subscript, Value, [], ap, arith, changed, cond, count_in, data_room_of, datum_in, entries_in, entry_at, false, get, get_or, inl, inr, is_closed, is_some, length, length-map, live_of, map, member_at, members_in, notice_to, notices_after, notices_in, one_write_less, option_map, place_in, places_of, queued, refl, rooms_in, served_of, set_to, size_at, store_after, subscripts_at, subscripts_of, subst, sym, true, value_at, value_in, waiting_for, ℕ, ◌%◌, ◌∙◌, ◌≡◌, ◌≢◌, ◌≤◌, ◌⊎◌}
use Rattle.tw_store.proofs.Shown.{seat_of, search_slots, get_nowhere, IsFoundAt, IsNowhere}
use Rattle.tw_store.proofs.Roomy.{rooms_kept, rooms_left, same_room, same_rooms}
use Rattle.tw_store.proofs.Remain.{apart_left, live_at, of_some, place_at, place_leaves, place_stays, seated_left, some_is}

-- the slot of a right that is live here
pub record Seat (slots : Slots) (s : Served) (right : Right) (place : ℕ) : Type 0 where
  pub slot : Slot
  pub there : get_or slots place None ≡ Some slot
  pub id_is : slot.id ≡ right.id
  pub live : get s.store.live right.id ≡ Some slot.datum.datum

pub seat : (slab : Slab Slot) (next : ℕ) (queues : Queues) (s : Served) (right : Right) (place : ℕ) → served_of slab next queues ≡ s → AreSeated slab.slots next → IsHere s right → place ≡ right.place → Seat slab.slots s right place
seat slab next queues s right place view seated here at =
    let found = seat_of slab.slots place right.id seated.apart (ap (λ (x : Served). get x.places right.id) view ∙ here ∙ ap Some (sym at)) in
    record {
      slot = found.slot;
      there = found.there;
      id_is = found.id_is;
      live = ap (λ (x : Served). get x.store.live right.id) (sym view) ∙ ap (get (live_of slab.slots)) (sym found.id_is) ∙ live_at slab.slots next place found.slot seated found.there;
    }

module _ (slots : Slots) (s : Served) (right : Right) (place : ℕ) (x : Seat slots s right place) where
  pub is_there : IsSome (get_or slots place None)
  is_there = some_is _ x.slot x.there

  -- the datum that is read there
  pub read_is : (d : PlacedDatum) → IfSome (get_or slots place None) (λ e. d ≡ e.datum) → get s.store.live right.id ≡ Some d.datum
  read_is d h = x.live ∙ ap (λ (y : PlacedDatum). Some y.datum) (sym (of_some (λ (e : Slot). d ≡ e.datum) _ x.slot x.there h))

pub size_is : (s : Served) (id : ℕ) (x : Datum) → get s.store.live id ≡ Some x → count_in x.content ≡ size_at s.store id
size_is s id x e = rw e refl

pub subscripts_is : (s : Served) (id : ℕ) (x : Datum) → get s.store.live id ≡ Some x → subscripts_of x.content ≡ subscripts_at s.store id
subscripts_is s id x e = rw e refl

pub entry_is : (s : Served) (id : ℕ) (k : Subscript) (x : Datum) → get s.store.live id ≡ Some x → get (entries_in x.content) k ≡ entry_at s.store id k
entry_is s id k x e = rw e refl

pub value_is : (s : Served) (id : ℕ) (x : Datum) → get s.store.live id ≡ Some x → value_in x.content ≡ value_at s.store id
value_is s id x e = rw e refl

pub member_is : (s : Served) (id : ℕ) (k : Subscript) (x : Datum) → get s.store.live id ≡ Some x → get (members_in x.content) k ≡ member_at s.store id k
member_is s id k x e = rw e refl

-- ---- the effect of a call

module _ (slab : Slab Slot) (next : ℕ) (queues : Queues) (s : Served) (view : served_of slab next queues ≡ s) (seated : AreSeated slab.slots next) where
  pub keeps : (slab2 : Slab Slot) (next2 : ℕ) (queues2 : Queues) → Remains slab.slots slab2.slots → KeepsPlaces s (served_of slab2 next2 queues2)
  keeps slab2 next2 queues2 r = record {
    stays = λ id x live. place_stays slab.slots slab2.slots r seated.apart id x live ∙ ap (λ (y : Served). get y.places id) view;
    leaves = λ id gone. place_leaves slab2.slots (apart_left slab.slots slab2.slots r seated.apart) id gone;
  }

  module _ (right : Right) (place : ℕ) (x : Seat slab.slots s right place) (f : Datum → Datum) where
    pub now_is : (slab2 : Slab Slot) → IsChangedAt place f slab.slots slab2.slots → data_room_of slab ≤ data_room_of slab2 → IsNow (changed s.store right.id f) s (served_of slab2 next queues)
    now_is slab2 h more =
        let ch : IsChanged next x.slot.id f slab.slots slab2.slots = h next x.slot seated x.there in
        record {
          store = ap (λ (y : Served). record { live = live_of slab2.slots; next = y.store.next }) view ∙ ch.live s.store (ap (λ (y : Served). y.store.live) (sym view)) ∙ ap (λ id. changed s.store id f) x.id_is;
          places = ch.places ∙ ap (λ (y : Served). y.places) view;
          queues = ap (λ (y : Served). y.queues) view;
          rooms = rooms_kept slab next queues s view slab2 next queues more (same_room queues);
        }

    pub now_seated : (slab2 : Slab Slot) → IsChangedAt place f slab.slots slab2.slots → AreSeated slab2.slots next
    now_seated slab2 h = (h next x.slot seated x.there).seated

    -- it has changed, or nothing has
    pub then_seated : {A E : Type 0} (r : Result A E) (slab2 : Slab Slot) → OnOk r (IsChangedAt place f slab.slots slab2.slots) → OnErr r (slab2.slots ≡ slab.slots) → AreSeated slab2.slots next
    then_seated (Ok v) slab2 changed kept = now_seated slab2 changed
    then_seated (Err why) slab2 changed kept = subst (λ (slots : Slots). AreSeated slots next) (sym kept) seated

    -- the datum may be freed, and its subscribers hear of it
    pub left_is : (slab2 : Slab Slot) (queues2 : Queues) (notices : List Notice) → IfSome (get_or slab.slots place None) (λ e. IsSettled e.id f slab.slots slab2.slots)
        → notices ≡ notices_after s.store right.id f → notices_in queues2 ≡ queued right.id notices (notices_in queues) → data_room_of slab ≤ data_room_of slab2
        → (count : ℕ) → count ≡ length notices → HaveOtherRoom (right.id % length queues) count queues queues2 → IsLeft s (served_of slab2 next queues2) right.id f
    left_is slab2 queues2 notices h heard notified more count all have =
        let done : IsSettled x.slot.id f slab.slots slab2.slots = of_some (λ (e : Slot). IsSettled e.id f slab.slots slab2.slots) _ x.slot x.there h in
        record {
          store = ap (λ (y : Served). record { live = live_of slab2.slots; next = y.store.next }) view ∙ done.live s.store (ap (λ (y : Served). y.store.live) (sym view)) ∙ ap (λ id. store_after s.store id f) x.id_is;
          queues = notified ∙ ap (λ ns. queued right.id ns (notices_in queues)) heard ∙ ap (λ (y : Served). queued right.id (notices_after s.store right.id f) y.queues) view;
          places = keeps slab2 next queues2 done.remains;
          rooms = subst (λ n. KeepsOtherRooms (right.id % n) (length (notices_after s.store right.id f)) s (served_of slab2 next queues2)) servers
              (subst (λ n. KeepsOtherRooms (right.id % length queues) n s (served_of slab2 next queues2)) (all ∙ ap length heard) (rooms_left slab next queues s view slab2 next queues2 more (right.id % length queues) count have));
        }
      where
        servers : length queues ≡ length s.queues
        servers = sym (length-map queues (λ q. q.items)) ∙ ap (λ (y : Served). length y.queues) view

    pub left_seated : (slab2 : Slab Slot) → IfSome (get_or slab.slots place None) (λ e. IsSettled e.id f slab.slots slab2.slots) → AreSeated slab2.slots next
    left_seated slab2 h = seated_left slab.slots slab2.slots (of_some (λ (e : Slot). IsSettled e.id f slab.slots slab2.slots) _ x.slot x.there h).remains next seated

  pub same_is : (slab2 : Slab Slot) (queues2 : Queues) → slab2.slots ≡ slab.slots → notices_in queues2 ≡ notices_in queues → data_room_of slab ≤ data_room_of slab2 → HaveRoom queues queues2
      → IsUnchanged s (served_of slab2 next queues2)
  same_is slab2 queues2 slots notified more have = record {
    store = ap (λ m. record { live = live_of m; next = next }) slots ∙ ap (λ (y : Served). y.store) view;
    places = ap places_of slots ∙ ap (λ (y : Served). y.places) view;
    queues = notified ∙ ap (λ (y : Served). y.queues) view;
    rooms = rooms_kept slab next queues s view slab2 next queues2 more have;
  }

  -- the notices of a datum fit in the queue of its server
  pub room_is : (id : ℕ) (count : ℕ) → HasNoticeRoom s id → count ≤ waiting_for (get s.store.live id) → count ≤ get_or (rooms_in queues) (id % length queues) 0
  room_is id count room few =
      let at : get_or s.notice_rooms (id % length s.queues) 0 ≡ get_or (rooms_in queues) (id % length queues) 0 = ap (λ (y : Served). get_or y.notice_rooms (id % length y.queues) 0) (sym view)
      ∙ ap (λ n. get_or (rooms_in queues) (id % n) 0) (length-map queues (λ q. q.items)) in
      omega (arith, room, few, at)

-- ---- who hears of it

pub set_heard : (s : Served) (id : ℕ) (x : Datum) (value : Value) → get s.store.live id ≡ Some x → map (notice_to id) x.subscribers ≡ notices_after s.store id (set_to value)
set_heard s id x value e = rw e refl

notified_if : (id : ℕ) (b : Bool) (subscribers : List Subscriber) → map (notice_to id) (cond b subscribers []) ≡ cond b (map (notice_to id) subscribers) []
notified_if id true subscribers = refl
notified_if id false subscribers = refl

pub drop_heard : (s : Served) (id : ℕ) (x : Datum) → get s.store.live id ≡ Some x → map (notice_to id) (cond (is_closed (one_write_less x)) x.subscribers []) ≡ notices_after s.store id one_write_less
drop_heard s id x e = rw e (notified_if id (is_closed (one_write_less x)) x.subscribers)

fewer : (b : Bool) (subscribers : List Subscriber) → length (cond b subscribers []) ≤ length subscribers
fewer true subscribers = omega arith
fewer false subscribers = omega arith

pub set_count : (s : Served) (id : ℕ) (x : Datum) → get s.store.live id ≡ Some x → length x.subscribers ≤ waiting_for (get s.store.live id)
set_count s id x e = rw e (omega arith)

pub drop_count : (s : Served) (id : ℕ) (x : Datum) → get s.store.live id ≡ Some x → length (cond (is_closed (one_write_less x)) x.subscribers []) ≤ waiting_for (get s.store.live id)
drop_count s id x e = rw e (fewer (is_closed (one_write_less x)) x.subscribers)

-- ---- members

some_kept : {A B : Type 0} (f : A → B) (r : Option A) → is_some (option_map f r) ≡ is_some r
some_kept f None = refl
some_kept f (Some x) = refl

none_kept : {A B : Type 0} (f : A → B) (r : Option A) → is_some r ≡ false → option_map f r ≡ None
none_kept f None e = refl
none_kept f (Some x) e = cc

pub has_member : (r : Option Member) (o : Option ℕ) → option_map (λ (m : Member). m.id) r ≡ o → is_some r ≡ true → IsSome o
has_member r o e some = subst IsSome e (some_kept (λ (m : Member). m.id) r ∙ some)

pub no_member : (r : Option Member) (o : Option ℕ) → option_map (λ (m : Member). m.id) r ≡ o → is_some r ≡ false → o ≡ None
no_member r o e none = sym e ∙ none_kept (λ (m : Member). m.id) r none

there_is : {A : Type 0} (r : Option A) → is_some r ≡ true → (x : A) × (r ≡ Some x)
there_is None e = cc
there_is (Some x) e = (x, refl)

no_place : (x : Datum) → None ≡ Some x → ⊥
no_place x e = cc

abbrev pub right_on : Member → Right
right_on m = record { id = m.id; place = m.place }

module _ (slab : Slab Slot) (next : ℕ) (queues : Queues) (s : Served) (view : served_of slab next queues ≡ s) (seated : AreSeated slab.slots next) (right : Right) (place : ℕ) (x : Seat slab.slots s right place) (d : PlacedDatum) (at : IfSome (get_or slab.slots place None) (λ e. d ≡ e.datum)) (k : Subscript) (m : Member) (has : get d.members k ≡ Some m) (kept : is_some (get s.store.live m.id) ≡ true) where
  -- it is at the place that the container has for it
  pub member_here : IsHere s (right_on m)
  member_here = by (search_slots slab.slots m.id)
    where
      its : get x.slot.datum.members k ≡ Some m
      its = ap (λ (y : PlacedDatum). get y.members k) (sym (of_some (λ (e : Slot). d ≡ e.datum) _ x.slot x.there at)) ∙ has

      live : get (live_of slab.slots) m.id ≡ get s.store.live m.id
      live = ap (λ (y : Served). get y.store.live m.id) view

      by : IsFoundAt slab.slots m.id ⊎ IsNowhere slab.slots m.id → IsHere s (right_on m)
      by (inl t) =
          let one : t.place ≡ m.place = (seated.members place x.slot x.there k m its).1.only t.place t.slot t.there t.id_is in
          ap (λ (y : Served). get y.places m.id) (sym view) ∙ ap (get (places_of slab.slots)) (sym t.id_is) ∙ place_at slab.slots next t.place t.slot seated t.there ∙ ap Some one
      by (inr n) =
          let y = there_is (get s.store.live m.id) kept in
          absurd (no_place y.0 (sym (get_nowhere datum_in slab.slots m.id n) ∙ live ∙ y.1))

  pub member_seat : Seat slab.slots s (right_on m) m.place
  member_seat = seat slab next queues s (right_on m) m.place view seated member_here refl

pub if_ok : {E : Type 0} (P Q : Value → Type 0) (r : Result Value E) → IfOk r P → ((v : Value) → P v → Q v) → IfOk r Q
if_ok P Q (Ok v) h f = f v h
if_ok P Q (Err e) h f = h

pub unchanged : (s : Served) → IsUnchanged s s
unchanged s = record { store = refl; places = refl; queues = refl; rooms = same_rooms s }

pub here_of : (slab : Slab Slot) (next : ℕ) (queues : Queues) (s : Served) (right : Right) (id place : ℕ) → served_of slab next queues ≡ s → IsHere s right → id ≡ right.id → place ≡ right.place → get (places_of slab.slots) id ≡ Some place
here_of slab next queues s right id place view here is at = ap (get (places_of slab.slots)) is ∙ ap (λ (x : Served). get x.places right.id) view ∙ here ∙ ap Some (sym at)

pub member_room : (s : Store) (id : ℕ) (k : Subscript) (m : ℕ) → member_at s id k ≡ Some m → HasMemberRoom s id k → HasReadRoom (get s.live m)
member_room s id k m e h = rw e at h

-- if the queue of its server has room for as many notices as parameters wait
pub notice_room : (slab : Slab Slot) (next : ℕ) (queues : Queues) (s : Served) → served_of slab next queues ≡ s → AreSeated slab.slots next → (id : ℕ) (x : Datum) → get s.store.live id ≡ Some x → (queues2 : Queues) (count : ℕ) → count ≡ length x.subscribers
    → length queues2 ≡ length queues → count ≤ get_or (rooms_in queues2) (id % length queues) 0 → HasNoticeRoom (served_of slab next queues2) id
notice_room slab next queues s view seated id x live queues2 count all servers room =
    let waiting : waiting_for (get (live_of slab.slots) id) ≡ length x.subscribers = ap waiting_for (ap (λ (y : Served). get y.store.live id) view ∙ live) in
    let at : get_or (rooms_in queues2) (id % length (notices_in queues2)) 0 ≡ get_or (rooms_in queues2) (id % length queues) 0 = ap (λ n. get_or (rooms_in queues2) (id % n) 0) (length-map queues2 (λ q. q.items) ∙ servers) in
    omega (arith, waiting, at, room, all)

-- ---- a look at an id

pub place_is : (slab : Slab Slot) (next : ℕ) (queues : Queues) (s : Served) → served_of slab next queues ≡ s → AreSeated slab.slots next → (id : ℕ) (r : Option ℕ)
    → IfSome r (λ place. IsAtPlace slab.slots id place) → IfNone r ((p : ℕ) (e : Slot) → get_or slab.slots p None ≡ Some e → e.id ≢ id) → r ≡ get s.places id
place_is slab next queues s view seated id None found absent = sym (ap (λ (y : Served). get y.places id) (sym view) ∙ get_nowhere place_in slab.slots id absent)
place_is slab next queues s view seated id (Some place) found absent = sym (ap (λ (y : Served). get y.places id) (sym view) ∙ ap (get (places_of slab.slots)) (sym found.id_is) ∙ place_at slab.slots next place found.slot seated found.there)

-- a datum without a place isn't live
pub gone_is : (slab : Slab Slot) (next : ℕ) (queues : Queues) (s : Served) → served_of slab next queues ≡ s → AreSeated slab.slots next → (id : ℕ) → get s.places id ≡ None → get s.store.live id ≡ None
gone_is slab next queues s view seated id none = ap (λ (y : Served). get y.store.live id) (sym view) ∙ by (search_slots slab.slots id)
  where
    clash : (p : ℕ) → None ≡ Some p → ⊥
    clash p e = cc

    by : IsFoundAt slab.slots id ⊎ IsNowhere slab.slots id → get (live_of slab.slots) id ≡ None
    by (inl t) = absurd (clash t.place (sym none ∙ ap (λ (y : Served). get y.places id) (sym view) ∙ ap (get (places_of slab.slots)) (sym t.id_is) ∙ place_at slab.slots next t.place t.slot seated t.there))
    by (inr n) = get_nowhere datum_in slab.slots id n
