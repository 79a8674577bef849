-- Slots of which some are left, and facts on them that stay true.
use Rattle.std.proofs.Common.{[], ◌≡◌, ◌≢◌, ◌<◌, ◌+◌, ◌-◌, ℕ, suc, zero, Bool, true, false, cond, List, ◌∷◌, refl, sym, ap, subst, ◌∙◌, arith, get_or, set, inl, inr, fold, IfSome, IsSome, Result, Ok, Err}
use Rattle.tw_store.proofs.Names.{AllAt, AreApart, AreSeated, Datum, IsAt, IsChanged, IsChangedAt, IsInsertedAt, IsMemberAdded, IsSettled, Member, Option, PlacedDatum, PlacedMembers, Remains, Slot, Slots, Subscript, WasThere, changed_is, datum_in, drop_absent, drop_held, drop_last, drop_lowest, drop_read_within, drop_unread, eq_by_cmp, eqb_tells, get, get-insert, id_of, insert, is_unheld, live_of, members_in, members_of, place_in, places_of, remove, same, settled, settled_gone, settled_held, subscribers_cleared, value_cmp, with_kept_member, with_member}
use Rattle.std.specs.declared.option.Option.TheVariants.{None, Some}
use Rattle.tw_types.proofs.ValueOrder.{value_cmp_total}
use Rattle.std.specs.FinMap as map
use Rattle.tw_store.proofs.Shown.{map_of, get_shown, get_nowhere, search_slots, same_slot, no_slot, shown_put, shown_gone, apart_put, set_there, set_others, seat_of, IsSeat}
use Rattle.tw_store.proofs.Live.{after_is}

-- ---- data that are left

pub remains_then : (a b c : Slots) → Remains a b → Remains b c → Remains a c
remains_then a b c r s = record {
  each = λ q f h.
      let x : WasThere b q f = s.each q f h in
      let y : WasThere a q x.slot = r.each q x.slot x.there in
      record { slot = y.slot; there = y.there; id_is = x.id_is ∙ y.id_is; members = x.members ∙ y.members };
}

-- one slot has another datum of the same members
remains_put : (old new : Slots) (p : ℕ) (e f : Slot) → get_or old p None ≡ Some e → get_or new p None ≡ Some f → f.id ≡ e.id → f.datum.members ≡ e.datum.members
    → ((j : ℕ) → j ≢ p → get_or new j None ≡ get_or old j None) → Remains old new
remains_put old new p e f was is alike members others = record {
  each = λ q x h. elim (eqb_tells q p) as (λ _. WasThere old q x) [
    | inl y ↦
        let it : x ≡ f = same_slot x f (sym h ∙ ap (λ n. get_or new n None) y.1 ∙ is) in
        record { slot = e; there = ap (λ n. get_or old n None) y.1 ∙ was; id_is = ap (λ (s : Slot). s.id) it ∙ alike; members = ap (λ (s : Slot). s.datum.members) it ∙ members }
    | inr y ↦ record { slot = x; there = sym (others q y.1) ∙ h; id_is = refl; members = refl }
  ];
}

remains_gone : (old new : Slots) (p : ℕ) → get_or new p None ≡ None → ((j : ℕ) → j ≢ p → get_or new j None ≡ get_or old j None) → Remains old new
remains_gone old new p gone others = record {
  each = λ q x h. elim (eqb_tells q p) as (λ _. WasThere old q x) [
    | inl y ↦ absurd (no_slot x (sym gone ∙ ap (λ n. get_or new n None) (sym y.1) ∙ h))
    | inr y ↦ record { slot = x; there = sym (others q y.1) ∙ h; id_is = refl; members = refl }
  ];
}

no_datum : {A : Type 0} (x : A) → None ≡ Some x → ⊥
no_datum x e = cc

module _ (old new : Slots) (r : Remains old new) where
  pub apart_left : AreApart old → AreApart new
  apart_left was p q e f h k i =
      let x : WasThere old p e = r.each p e h in
      let y : WasThere old q f = r.each q f k in
      was p q x.slot y.slot x.there y.there (sym x.id_is ∙ i ∙ y.id_is)

  pub at_left : (id p : ℕ) → IsAt old id p → IsAt new id p
  at_left id p was = record { only = λ q e h i. let x : WasThere old q e = r.each q e h in was.only q x.slot x.there (sym x.id_is ∙ i) }

  pub all_left : (next : ℕ) (ms : PlacedMembers) → AllAt old next ms → AllAt new next ms
  all_left next ms h k m e = let at = h k m e in (at.0, at_left m.id m.place at.1)

  pub seated_left : (next : ℕ) → AreSeated old next → AreSeated new next
  seated_left next s = record {
    apart = apart_left s.apart;
    below = λ p e h. let x : WasThere old p e = r.each p e h in subst (λ k. k < next) (sym x.id_is) (s.below p x.slot x.there);
    members = λ p e h. let x : WasThere old p e = r.each p e h in subst (AllAt new next) (sym x.members) (all_left next x.slot.datum.members (s.members p x.slot x.there));
  }

  -- data that stay keep their places
  pub place_stays : AreApart old → (id : ℕ) (x : Datum) → get (live_of new) id ≡ Some x → get (places_of new) id ≡ get (places_of old) id
  place_stays apart id x live = elim (search_slots new id) as (λ _. get (places_of new) id ≡ get (places_of old) id) [
    | inl t ↦
        let y : WasThere old t.place t.slot = r.each t.place t.slot t.there in
        ap (get (places_of new)) (sym t.id_is) ∙ get_shown place_in new (apart_left apart) t.place t.slot t.there
        ∙ sym (ap (get (places_of old)) (sym (sym y.id_is ∙ t.id_is)) ∙ get_shown place_in old apart t.place y.slot y.there)
    | inr n ↦ absurd (no_datum x (sym (get_nowhere datum_in new id n) ∙ live))
  ]

-- and a datum that was freed has no place
pub place_leaves : (slots : Slots) → AreApart slots → (id : ℕ) → get (live_of slots) id ≡ None → get (places_of slots) id ≡ None
place_leaves slots apart id gone = elim (search_slots slots id) as (λ _. get (places_of slots) id ≡ None) [
  | inl t ↦ absurd (no_datum t.slot.datum.datum (sym gone ∙ ap (get (live_of slots)) (sym t.id_is) ∙ get_shown datum_in slots apart t.place t.slot t.there))
  | inr n ↦ get_nowhere place_in slots id n
]

-- ---- the datum at a place

at_once : (slots : Slots) (p : ℕ) (e : Slot) → AreApart slots → get_or slots p None ≡ Some e → IsAt slots e.id p
at_once slots p e apart there = record { only = λ q f h i. apart q p f e h there i }

pub seat_at : (slots : Slots) (p id : ℕ) → AreApart slots → get (places_of slots) id ≡ Some p → IsAt slots id p
seat_at slots p id apart h =
    let s : IsSeat slots p id = seat_of slots p id apart h in
    subst (λ k. IsAt slots k p) s.id_is (at_once slots p s.slot apart s.there)

-- an id that isn't at its place is nowhere
pub gone_from : (slots : Slots) (p id : ℕ) → IsAt slots id p → ((e : Slot) → get_or slots p None ≡ Some e → e.id ≢ id) → get (live_of slots) id ≡ None
gone_from slots p id at h = get_nowhere datum_in slots id (λ q e there i. h e (ap (λ n. get_or slots n None) (sym (at.only q e there i)) ∙ there) i)

pub set_same : (slots : Slots) (p : ℕ) (e : Slot) → get_or slots p None ≡ Some e → set slots p (Some e) ≡ slots
set_same [] p e h = refl
set_same (x ∷ slots) zero e h = ap (λ y. y ∷ slots) (sym h)
set_same (x ∷ slots) (suc p) e h = ap (λ ys. x ∷ ys) (set_same slots p e h)

-- ---- one slot changes

module _ (slots : Slots) (next p : ℕ) (e : Slot) (seated : AreSeated slots next) (there : get_or slots p None ≡ Some e) where
  pub live_at : get (live_of slots) e.id ≡ Some e.datum.datum
  live_at = get_shown datum_in slots seated.apart p e there

  pub place_at : get (places_of slots) e.id ≡ Some p
  place_at = get_shown place_in slots seated.apart p e there

  pub wrong_id : (n id : ℕ) → e.id ≢ id → IsAt slots id p → live_of (set slots p (Some e)) ≡ drop_read_within n (live_of slots) id
  wrong_id n id other at = ap live_of (set_same slots p e there) ∙ drop_absent (live_of slots) id n (gone_from slots p id at (λ f h i. other (ap (λ (s : Slot). s.id) (same_slot e f (sym there ∙ h)) ∙ i)))

  pub unread : (n : ℕ) → e.datum.datum.reads ≡ 0 → live_of (set slots p (Some e)) ≡ drop_read_within n (live_of slots) e.id
  unread n none = ap live_of (set_same slots p e there) ∙ drop_unread (live_of slots) e.id n e.datum.datum live_at none

  module _ (d : PlacedDatum) where
    abbrev pub with_other : Slot
    with_other = record { id = e.id; datum = d }

    abbrev pub written : Slots
    written = set slots p (Some with_other)

    pub is_there : get_or written p None ≡ Some with_other
    is_there = set_there slots p (Some with_other) e there

    module _ (alike : d.members ≡ e.datum.members) where
      pub written_remains : Remains slots written
      written_remains = remains_put slots written p e with_other there is_there refl alike (λ j n. set_others slots p j (Some with_other) n)

      pub written_live : live_of written ≡ insert (live_of slots) e.id d.datum
      written_live = shown_put datum_in slots written p with_other seated.apart (apart_left slots written written_remains seated.apart) is_there (λ j n. set_others slots p j (Some with_other) n) (λ f h. ap (λ (s : Slot). s.id) (same_slot f e (sym h ∙ there)))

      written_places : places_of written ≡ places_of slots
      written_places = shown_put place_in slots written p with_other seated.apart (apart_left slots written written_remains seated.apart) is_there (λ j n. set_others slots p j (Some with_other) n) (λ f h. ap (λ (s : Slot). s.id) (same_slot f e (sym h ∙ there)))
          ∙ same (places_of slots) e.id p place_at

      pub written_changed : (f : Datum → Datum) → d.datum ≡ f e.datum.datum → IsChanged next e.id f slots written
      written_changed f is = record {
        live = λ s view. changed_is s (live_of slots) (live_of written) e.id e.datum.datum f view live_at (written_live ∙ ap (insert (live_of slots) e.id) is);
        places = written_places;
        seated = seated_left slots written written_remains next seated;
      }

      pub written_settled : (f : Datum → Datum) (after : Slots) → d.datum ≡ subscribers_cleared (f e.datum.datum) → IfSome (get_or written p None) (λ x. live_of after ≡ settled (live_of written) x.id x.datum.datum) → Remains written after → IsSettled e.id f slots after
      written_settled f after is left remains = record {
        live = λ s view. after_is s (live_of slots) (live_of written) (live_of after) e.id e.datum.datum f view live_at (written_live ∙ ap (insert (live_of slots) e.id) is)
            (subst (λ r. IfSome r (λ x. live_of after ≡ settled (live_of written) x.id x.datum.datum)) is_there left ∙ ap (settled (live_of written) e.id) is);
        remains = remains_then slots written after written_remains remains;
      }

      pub held_left : (n : ℕ) → e.datum.datum.reads ≢ 0 → d.datum ≡ record e.datum.datum { reads = e.datum.datum.reads - 1 } → is_unheld d.datum ≡ false → live_of written ≡ drop_read_within n (live_of slots) e.id
      held_left n reads less held = written_live ∙ ap (insert (live_of slots) e.id) less
          ∙ drop_held (live_of slots) e.id n e.datum.datum live_at reads (subst (λ x. is_unheld x ≡ false) less held)

  module _ (new : Slots) (gone : get_or new p None ≡ None) (still : (j : ℕ) → j ≢ p → get_or new j None ≡ get_or slots j None) where
    pub gone_remains : Remains slots new
    gone_remains = remains_gone slots new p gone still

    pub gone_live : live_of new ≡ remove (live_of slots) e.id
    gone_live = shown_gone datum_in slots new p e seated.apart (apart_left slots new gone_remains seated.apart) there gone still

    pub gone_seated : AreSeated new next
    gone_seated = seated_left slots new gone_remains next seated

    pub gone_members : (ms : PlacedMembers) → ms ≡ e.datum.members → AllAt new next ms
    gone_members ms is = subst (AllAt new next) (sym is) (all_left slots new gone_remains next e.datum.members (seated.members p e there))

    pub lowest_left : (n : ℕ) (x : Datum) → n ≡ 0 → e.datum.datum.reads ≢ 0 → x ≡ record e.datum.datum { reads = e.datum.datum.reads - 1 } → is_unheld x ≡ true → live_of new ≡ drop_read_within n (live_of slots) e.id
    lowest_left n x low reads less free = gone_live ∙ drop_lowest (live_of slots) e.id n e.datum.datum low live_at reads (subst (λ y. is_unheld y ≡ true) less free)

    pub last_left : (n : ℕ) (x : Datum) (ids : List ℕ) (after : Slots) → n ≢ 0 → e.datum.datum.reads ≢ 0 → x ≡ record e.datum.datum { reads = e.datum.datum.reads - 1 } → is_unheld x ≡ true → ids ≡ members_of e.datum.datum.content
        → live_of after ≡ fold (drop_read_within (n - 1)) (live_of new) ids → live_of after ≡ drop_read_within n (live_of slots) e.id
    last_left n x ids after some reads less free is then = then ∙ ap (λ m. fold (drop_read_within (n - 1)) m ids) gone_live
        ∙ ap (fold (drop_read_within (n - 1)) (remove (live_of slots) e.id)) is
        ∙ drop_last (live_of slots) e.id n e.datum.datum some live_at reads (subst (λ y. is_unheld y ≡ true) less free)

    pub last_settled : (ids : List ℕ) (after : Slots) → is_unheld e.datum.datum ≡ true → ids ≡ members_of e.datum.datum.content
        → live_of after ≡ fold (drop_read_within 2) (live_of new) ids → live_of after ≡ settled (live_of slots) e.id e.datum.datum
    last_settled ids after free is then = then ∙ ap (λ m. fold (drop_read_within 2) m ids) gone_live
        ∙ ap (fold (drop_read_within 2) (remove (live_of slots) e.id)) is
        ∙ settled_gone (live_of slots) e.id e.datum.datum free

  pub held_settled : is_unheld e.datum.datum ≡ false → live_of slots ≡ settled (live_of slots) e.id e.datum.datum
  held_settled held = settled_held (live_of slots) e.id e.datum.datum live_at held

-- ---- a new slot

module _ (old new : Slots) (next p : ℕ) (e : Slot) (seated : AreSeated old next) (vacant : get_or old p None ≡ None) (is : get_or new p None ≡ Some e) (others : (j : ℕ) → j ≢ p → get_or new j None ≡ get_or old j None) (fresh_id : e.id ≡ next) (empty : e.datum.members ≡ map.empty) where
  under : (q : ℕ) (f : Slot) → get_or old q None ≡ Some f → f.id ≢ e.id
  under q f h i = let low : f.id < next = seated.below q f h in absurd (omega arith)

  pub add_apart : AreApart new
  add_apart = apart_put old new p e seated.apart is others (λ j f n h. under j f h)

  still_at : (m : Member) → m.id < next → IsAt old m.id m.place → IsAt new m.id m.place
  still_at m low at = record {
    only = λ q f h i. elim (eqb_tells q p) as (λ _. q ≡ m.place) [
      | inl y ↦
          let it : f ≡ e = same_slot f e (sym h ∙ ap (λ n. get_or new n None) y.1 ∙ is) in
          let one : f.id ≡ e.id = ap (λ (s : Slot). s.id) it in
          absurd (omega arith)
      | inr y ↦ at.only q f (sym (others q y.1) ∙ h) i
    ];
  }

  all_still : (ms : PlacedMembers) → AllAt old next ms → AllAt new (next + 1) ms
  all_still ms h k m g = let at = h k m g in (omega (arith, at.0), still_at m at.0 at.1)

  none_at : AllAt new (next + 1) map.empty
  none_at k m g = absurd (no_datum m (sym (map.get-empty value_cmp k) ∙ g))

  pub add_seated : AreSeated new (next + 1)
  add_seated = record {
    apart = add_apart;
    below = λ q f h. elim (eqb_tells q p) as (λ _. f.id < next + 1) [
      | inl y ↦
          let it : f ≡ e = same_slot f e (sym h ∙ ap (λ n. get_or new n None) y.1 ∙ is) in
          let one : f.id ≡ e.id = ap (λ (s : Slot). s.id) it in
          omega arith
      | inr y ↦ let low : f.id < next = seated.below q f (sym (others q y.1) ∙ h) in omega arith
    ];
    members = λ q f h. elim (eqb_tells q p) as (λ _. AllAt new (next + 1) f.datum.members) [
      | inl y ↦
          let it : f ≡ e = same_slot f e (sym h ∙ ap (λ n. get_or new n None) y.1 ∙ is) in
          subst (AllAt new (next + 1)) (sym (ap (λ (s : Slot). s.datum.members) it ∙ empty)) none_at
      | inr y ↦ all_still f.datum.members (seated.members q f (sym (others q y.1) ∙ h))
    ];
  }

  pub add_shown : {Y : Type 0} (g : ℕ → Slot → Y) → map_of g new ≡ insert (map_of g old) e.id (g p e)
  add_shown g = shown_put g old new p e seated.apart add_apart is others (λ f h. absurd (no_slot f (sym vacant ∙ h)))

  -- no datum was at its place
  pub add_vacant : (id : ℕ) → get (places_of old) id ≢ Some p
  add_vacant id h = let s : IsSeat old p id = seat_of old p id seated.apart h in no_slot s.slot (sym vacant ∙ s.there)

-- ---- a container with another member

-- data that are left have the ids that were there
record SameIds (old new : Slots) : Type 0 where
  pub each : (q : ℕ) (f : Slot) → get_or new q None ≡ Some f → (x : Slot) × (get_or old q None ≡ Some x) × (f.id ≡ x.id)

module _ (old new : Slots) (r : SameIds old new) where
  apart_same : AreApart old → AreApart new
  apart_same was p q e f h k i =
      let x = r.each p e h in
      let y = r.each q f k in
      was p q x.0 y.0 x.1 y.1 (sym x.2 ∙ i ∙ y.2)

  at_same : (id p : ℕ) → IsAt old id p → IsAt new id p
  at_same id p was = record { only = λ q e h i. let x = r.each q e h in was.only q x.0 x.1 (sym x.2 ∙ i) }

  all_same : (next : ℕ) (ms : PlacedMembers) → AllAt old next ms → AllAt new next ms
  all_same next ms h k m g = let at = h k m g in (at.0, at_same m.id m.place at.1)

same_member : (m x : Member) → Some m ≡ Some x → m ≡ x
same_member m x e = cc

all_put : (slots : Slots) (next : ℕ) (ms : PlacedMembers) (k : Subscript) (m : Member) → AllAt slots next ms → m.id < next → IsAt slots m.id m.place → AllAt slots next (insert ms k m)
all_put slots next ms k m all low at q x h = by (eq_by_cmp value_cmp q k) (sym (get-insert value_cmp_total ms k m q) ∙ h)
  where
    by : (b : Bool) → cond b (Some m) (get ms q) ≡ Some x → (x.id < next) × IsAt slots x.id x.place
    by true e = subst (λ (y : Member). (y.id < next) × IsAt slots y.id y.place) (same_member m x e) (low, at)
    by false e = all q x e

module _ (slots : Slots) (next p : ℕ) (e : Slot) (seated : AreSeated slots next) (there : get_or slots p None ≡ Some e) (d : PlacedDatum) where
  abbrev rewritten : Slots
  rewritten = written slots next p e seated there d

  rewritten_ids : SameIds slots rewritten
  rewritten_ids = record {
    each = λ q x h. elim (eqb_tells q p) as (λ _. (y : Slot) × (get_or slots q None ≡ Some y) × (x.id ≡ y.id)) [
      | inl y ↦
          let it : x ≡ record { id = e.id; datum = d } = same_slot x (record { id = e.id; datum = d }) (sym h ∙ ap (λ n. get_or rewritten n None) y.1 ∙ is_there slots next p e seated there d) in
          (e, ap (λ n. get_or slots n None) y.1 ∙ there, ap (λ (s : Slot). s.id) it)
      | inr y ↦ (x, sym (set_others slots p q (Some (record { id = e.id; datum = d })) y.1) ∙ h, refl)
    ];
  }

  shown_again : {Y : Type 0} (g : ℕ → Slot → Y) → map_of g rewritten ≡ insert (map_of g slots) e.id (g p (record { id = e.id; datum = d }))
  shown_again g = shown_put g slots rewritten p (record { id = e.id; datum = d }) seated.apart (apart_same slots rewritten rewritten_ids seated.apart) (is_there slots next p e seated there d) (λ j n. set_others slots p j (Some (record { id = e.id; datum = d })) n) (λ f h. ap (λ (s : Slot). s.id) (same_slot f e (sym h ∙ there)))

  pub joined_changed : (k : Subscript) (m : Member) (f : Datum → Datum) → d.members ≡ insert e.datum.members k m → d.datum ≡ f e.datum.datum → get (places_of slots) m.id ≡ Some m.place → IsChanged next e.id f slots rewritten
  joined_changed k m f more is placed = record {
    live = λ s view. changed_is s (live_of slots) (live_of rewritten) e.id e.datum.datum f view (live_at slots next p e seated there) (shown_again datum_in ∙ ap (insert (live_of slots) e.id) is);
    places = shown_again place_in ∙ same (places_of slots) e.id p (place_at slots next p e seated there);
    seated = record {
      apart = apart_same slots rewritten rewritten_ids seated.apart;
      below = λ q x h. let y = rewritten_ids.each q x h in subst (λ k. k < next) (sym y.2) (seated.below q y.0 y.1);
      members = λ q x h. elim (eqb_tells q p) as (λ _. AllAt rewritten next x.datum.members) [
        | inl y ↦
            let it : x ≡ record { id = e.id; datum = d } = same_slot x (record { id = e.id; datum = d }) (sym h ∙ ap (λ n. get_or rewritten n None) y.1 ∙ is_there slots next p e seated there d) in
            let s : IsSeat slots m.place m.id = seat_of slots m.place m.id seated.apart placed in
            let low : m.id < next = subst (λ k. k < next) s.id_is (seated.below m.place s.slot s.there) in
            let all : AllAt slots next (insert e.datum.members k m) = all_put slots next e.datum.members k m (seated.members p e there) low (seat_at slots m.place m.id seated.apart placed) in
            subst (AllAt rewritten next) (sym (ap (λ (z : Slot). z.datum.members) it ∙ more)) (all_same slots rewritten rewritten_ids next (insert e.datum.members k m) all)
        | inr y ↦ all_same slots rewritten rewritten_ids next x.datum.members (seated.members q x (sym (set_others slots p q (Some (record { id = e.id; datum = d })) y.1) ∙ h))
      ];
    };
  }

-- ---- words for answers

pub if_some : {A : Type 0} (P : A → Type 0) (r : Option A) (x : A) → r ≡ Some x → P x → IfSome r P
if_some P r x e h = subst (λ y. IfSome y P) (sym e) h

pub of_some : {A : Type 0} (P : A → Type 0) (r : Option A) (x : A) → r ≡ Some x → IfSome r P → P x
of_some P r x e h = subst (λ y. IfSome y P) e h

pub some_is : {A : Type 0} (r : Option A) (x : A) → r ≡ Some x → IsSome r
some_is r x e = subst IsSome (sym e) refl

-- the datum at a place is another one
pub changed_at : (slots : Slots) (p : ℕ) (x : Slot) (d : PlacedDatum) (f : Datum → Datum) → get_or slots p None ≡ Some x → d ≡ record x.datum { datum = f x.datum.datum } → IsChangedAt p f slots (set slots p (Some (record { id = x.id; datum = d })))
changed_at slots p x d f at is next e seated there =
    subst (λ (y : Slot). IsChanged next y.id f slots (set slots p (Some (record { id = x.id; datum = d })))) (same_slot x e (sym at ∙ there))
    (written_changed slots next p x seated at d (ap (λ (y : PlacedDatum). y.members) is) f (ap (λ (y : PlacedDatum). y.datum) is))

pub joined_at : (slots : Slots) (p : ℕ) (x : Slot) (d : PlacedDatum) (k : Subscript) (m : Member) → get_or slots p None ≡ Some x → d ≡ with_kept_member id_of k m x.datum → get (places_of slots) m.id ≡ Some m.place → IsChangedAt p (with_member k m.id) slots (set slots p (Some (record { id = x.id; datum = d })))
joined_at slots p x d k m at is placed next e seated there =
    subst (λ (y : Slot). IsChanged next y.id (with_member k m.id) slots (set slots p (Some (record { id = x.id; datum = d })))) (same_slot x e (sym at ∙ there))
    (joined_changed slots next p x seated at d k m (with_member k m.id) (ap (λ (y : PlacedDatum). y.members) is) (ap (λ (y : PlacedDatum). y.datum) is) placed)

-- a member was inserted into the datum at a place, was there before, or an allocation failed
pub inserted_at : {E : Type 0} (r : Result Bool E) (slots : Slots) (p : ℕ) (x : Slot) (d : PlacedDatum) (k : Subscript) (m : Member) → get_or slots p None ≡ Some x → IsMemberAdded id_of r k m x.datum d → get (places_of slots) m.id ≡ Some m.place
    → IsInsertedAt p k m.id r slots (set slots p (Some (record { id = x.id; datum = d })))
inserted_at (Ok true) slots p x d k m at h placed =
    (λ e there. subst (λ (y : Slot). get (members_in y.datum.datum.content) k ≡ None) (same_slot x e (sym at ∙ there)) h.0, joined_at slots p x d k m at h.1 placed)
inserted_at (Ok false) slots p x d k m at h placed =
    (λ e there. subst (λ (y : Slot). IsSome (get (members_in y.datum.datum.content) k)) (same_slot x e (sym at ∙ there)) h.0, ap (λ (y : PlacedDatum). set slots p (Some (record { id = x.id; datum = y }))) h.1 ∙ set_same slots p x at)
inserted_at (Err why) slots p x d k m at h placed =
    (λ e there. subst (λ (y : Slot). get (members_in y.datum.datum.content) k ≡ None) (same_slot x e (sym at ∙ there)) h.0, ap (λ (y : PlacedDatum). set slots p (Some (record { id = x.id; datum = y }))) h.1 ∙ set_same slots p x at)
