-- The slots seen as maps, by what is at each place.
use Rattle.tw_store.proofs.Names.{AreApart, FinMap, List, Option, Slot, [], ap, arith, cond, eq_by_cmp, eqb_tells, false, find, from_entries, get, get-from_entries, get-insert, get-remove, get_or, inl, inr, insert, nat_cmp, nat_cmp-IsAntisymmetric, nat_cmp_total, place_in, places_of, refl, remove, same_map, set, shown, suc, sym, true, zero, ℕ, ◌+◌, ◌<◌, ◌∙◌, ◌∷◌, ◌≡◌, ◌≢◌, ◌⊎◌}
use Rattle.std.specs.declared.option.Option.TheVariants.{None, Some}
use Rattle.tw_types.proofs.Orders.{other_key, own_key}

pub same_slot : (e f : Slot) → Some e ≡ Some f → e ≡ f
same_slot e f h = cc

pub no_slot : (e : Slot) → None ≡ Some e → ⊥
no_slot e h = cc

-- the first slot with its id, at place p, is in the map
find_shown : {Y : Type 0} (g : ℕ → Slot → Y) (slots : List (Option Slot)) (k p : ℕ) (e : Slot) → get_or slots p None ≡ Some e
    → ((j : ℕ) (f : Slot) → j < p → get_or slots j None ≡ Some f → f.id ≢ e.id) → find nat_cmp e.id (shown g k slots) ≡ Some (g (k + p) e)
find_shown g [] k p e h u = absurd (no_slot e h)
find_shown g (None ∷ slots) k zero e h u = absurd (no_slot e h)
find_shown g (None ∷ slots) k (suc p) e h u =
    let next : suc k + p ≡ k + suc p = omega arith in
    find_shown g slots (suc k) p e h (λ j f l q. u (suc j) f (omega (arith, l)) q) ∙ ap (λ n. Some (g n e)) next
find_shown g (Some a ∷ slots) k zero e h u =
    let is : a ≡ e = same_slot a e h in
    let here : eq_by_cmp nat_cmp e.id a.id ≡ true = ap (eq_by_cmp nat_cmp e.id) (ap (λ s. s.id) is) ∙ own_key nat_cmp_total e.id in
    let first : k ≡ k + 0 = omega arith in
    ap (λ b. cond b (Some (g k a)) (find nat_cmp e.id (shown g (suc k) slots))) here ∙ ap (λ s. Some (g k s)) is ∙ ap (λ n. Some (g n e)) first
find_shown g (Some a ∷ slots) k (suc p) e h u =
    let next : suc k + p ≡ k + suc p = omega arith in
    let not_here : eq_by_cmp nat_cmp e.id a.id ≡ false = other_key nat_cmp-IsAntisymmetric e.id a.id (λ i. u zero a (omega arith) refl (sym i)) in
    ap (λ b. cond b (Some (g k a)) (find nat_cmp e.id (shown g (suc k) slots))) not_here
    ∙ find_shown g slots (suc k) p e h (λ j f l q. u (suc j) f (omega (arith, l)) q) ∙ ap (λ n. Some (g n e)) next

-- an id that is in no slot isn't in the map
pub find_none : {Y : Type 0} (g : ℕ → Slot → Y) (slots : List (Option Slot)) (k q : ℕ) → ((p : ℕ) (e : Slot) → get_or slots p None ≡ Some e → e.id ≢ q) → find nat_cmp q (shown g k slots) ≡ None
find_none g [] k q h = refl
find_none g (None ∷ slots) k q h = find_none g slots (suc k) q (λ p e i. h (suc p) e i)
find_none g (Some a ∷ slots) k q h = ap (λ b. cond b (Some (g k a)) (find nat_cmp q (shown g (suc k) slots))) (other_key nat_cmp-IsAntisymmetric q a.id (λ i. h zero a refl (sym i)))
    ∙ find_none g slots (suc k) q (λ p e i. h (suc p) e i)

pub record IsFoundAt (slots : List (Option Slot)) (q : ℕ) : Type 0 where
  pub place : ℕ
  pub slot : Slot
  pub there : get_or slots place None ≡ Some slot
  pub id_is : slot.id ≡ q

abbrev pub IsNowhere : List (Option Slot) → ℕ → Type 0
IsNowhere slots q = (p : ℕ) (e : Slot) → get_or slots p None ≡ Some e → e.id ≢ q

later : (a : Option Slot) (slots : List (Option Slot)) (q : ℕ) → IsFoundAt slots q → IsFoundAt (a ∷ slots) q
later a slots q s = record { place = suc s.place; slot = s.slot; there = s.there; id_is = s.id_is }

nowhere_none : (slots : List (Option Slot)) (q : ℕ) → IsNowhere slots q → IsNowhere (None ∷ slots) q
nowhere_none slots q n zero e h = absurd (no_slot e h)
nowhere_none slots q n (suc p) e h = n p e h

nowhere_some : (a : Slot) (slots : List (Option Slot)) (q : ℕ) → a.id ≢ q → IsNowhere slots q → IsNowhere (Some a ∷ slots) q
nowhere_some a slots q y n zero e h = λ i. y (ap (λ s. s.id) (same_slot a e h) ∙ i)
nowhere_some a slots q y n (suc p) e h = n p e h

pub search_slots : (slots : List (Option Slot)) (q : ℕ) → IsFoundAt slots q ⊎ IsNowhere slots q
search_slots [] q = inr (λ p e h i. no_slot e h)
search_slots (None ∷ slots) q = elim (search_slots slots q) as (λ _. IsFoundAt (None ∷ slots) q ⊎ IsNowhere (None ∷ slots) q) [
  | inl s ↦ inl (later None slots q s)
  | inr n ↦ inr (nowhere_none slots q n)
]
search_slots (Some a ∷ slots) q = elim (eqb_tells a.id q) as (λ _. IsFoundAt (Some a ∷ slots) q ⊎ IsNowhere (Some a ∷ slots) q) [
  | inl y ↦ inl (record { place = zero; slot = a; there = refl; id_is = y.1 })
  | inr y ↦ elim (search_slots slots q) as (λ _. IsFoundAt (Some a ∷ slots) q ⊎ IsNowhere (Some a ∷ slots) q) [
    | inl s ↦ inl (later (Some a) slots q s)
    | inr n ↦ inr (nowhere_some a slots q y.1 n)
  ]
]

module _ {Y : Type 0} (g : ℕ → Slot → Y) where
  abbrev pub map_of : List (Option Slot) → FinMap nat_cmp Y
  map_of slots = from_entries {R = nat_cmp} (shown g 0 slots)

  -- the map has the slot at its id
  pub get_shown : (slots : List (Option Slot)) → AreApart slots → (p : ℕ) (e : Slot) → get_or slots p None ≡ Some e → get (map_of slots) e.id ≡ Some (g p e)
  get_shown slots apart p e h =
      let first : 0 + p ≡ p = omega arith in
      get-from_entries nat_cmp_total (shown g 0 slots) e.id
      ∙ find_shown g slots 0 p e h (λ j f l q i. absurd (let same : j ≡ p = apart j p f e q h i in omega (arith, same, l)))
      ∙ ap (λ n. Some (g n e)) first

  pub get_nowhere : (slots : List (Option Slot)) (q : ℕ) → IsNowhere slots q → get (map_of slots) q ≡ None
  get_nowhere slots q h = get-from_entries nat_cmp_total (shown g 0 slots) q ∙ find_none g slots 0 q h

  -- e at place p, if there was nothing or a slot of the same id
  pub shown_put : (old new : List (Option Slot)) (p : ℕ) (e : Slot) → AreApart old → AreApart new → get_or new p None ≡ Some e
      → ((j : ℕ) → j ≢ p → get_or new j None ≡ get_or old j None) → ((f : Slot) → get_or old p None ≡ Some f → f.id ≡ e.id)
      → map_of new ≡ insert (map_of old) e.id (g p e)
  shown_put old new p e was is there others before = same_map nat_cmp_total nat_cmp-IsAntisymmetric _ _ (λ q. at q ∙ sym (get-insert nat_cmp_total (map_of old) e.id (g p e) q))
    where
      at : (q : ℕ) → get (map_of new) q ≡ cond (eq_by_cmp nat_cmp q e.id) (Some (g p e)) (get (map_of old) q)
      at q = elim (eqb_tells q e.id) as (λ _. get (map_of new) q ≡ cond (eq_by_cmp nat_cmp q e.id) (Some (g p e)) (get (map_of old) q)) [
        | inl y ↦ ap (get (map_of new)) y.1 ∙ get_shown new is p e there
            ∙ sym (ap (λ b. cond b (Some (g p e)) (get (map_of old) q)) (ap (λ x. eq_by_cmp nat_cmp x e.id) y.1 ∙ own_key nat_cmp_total e.id))
        | inr y ↦ elim (search_slots old q) as (λ _. get (map_of new) q ≡ cond (eq_by_cmp nat_cmp q e.id) (Some (g p e)) (get (map_of old) q)) [
          | inl s ↦
              let elsewhere : s.place ≢ p = λ i. y.1 (sym s.id_is ∙ before s.slot (ap (λ n. get_or old n None) (sym i) ∙ s.there)) in
              let still : get_or new s.place None ≡ Some s.slot = others s.place elsewhere ∙ s.there in
              ap (get (map_of new)) (sym s.id_is) ∙ get_shown new is s.place s.slot still
              ∙ sym (ap (λ b. cond b (Some (g p e)) (get (map_of old) q)) (other_key nat_cmp-IsAntisymmetric q e.id y.1)
              ∙ ap (get (map_of old)) (sym s.id_is) ∙ get_shown old was s.place s.slot s.there)
          | inr n ↦
              get_nowhere new q (λ j f h. elim (eqb_tells j p) as (λ _. f.id ≢ q) [
                | inl z ↦ λ i. y.1 (sym i ∙ ap (λ s. s.id) (same_slot f e (sym h ∙ ap (λ n. get_or new n None) z.1 ∙ there)))
                | inr z ↦ n j f (sym (others j z.1) ∙ h)
              ])
              ∙ sym (ap (λ b. cond b (Some (g p e)) (get (map_of old) q)) (other_key nat_cmp-IsAntisymmetric q e.id y.1) ∙ get_nowhere old q n)
        ]
      ]

  -- nothing at place p, where e was
  pub shown_gone : (old new : List (Option Slot)) (p : ℕ) (e : Slot) → AreApart old → AreApart new → get_or old p None ≡ Some e → get_or new p None ≡ None
      → ((j : ℕ) → j ≢ p → get_or new j None ≡ get_or old j None) → map_of new ≡ remove (map_of old) e.id
  shown_gone old new p e was is there gone others = same_map nat_cmp_total nat_cmp-IsAntisymmetric _ _ (λ q. at q ∙ sym (get-remove nat_cmp_total (map_of old) e.id q))
    where
      at : (q : ℕ) → get (map_of new) q ≡ cond (eq_by_cmp nat_cmp q e.id) None (get (map_of old) q)
      at q = elim (search_slots new q) as (λ _. get (map_of new) q ≡ cond (eq_by_cmp nat_cmp q e.id) None (get (map_of old) q)) [
        | inl s ↦
            let elsewhere : s.place ≢ p = λ i. no_slot s.slot (sym gone ∙ ap (λ n. get_or new n None) (sym i) ∙ s.there) in
            let still : get_or old s.place None ≡ Some s.slot = sym (others s.place elsewhere) ∙ s.there in
            let apart : q ≢ e.id = λ i. elsewhere (was s.place p s.slot e still there (s.id_is ∙ i)) in
            ap (get (map_of new)) (sym s.id_is) ∙ get_shown new is s.place s.slot s.there
            ∙ sym (ap (λ b. cond b None (get (map_of old) q)) (other_key nat_cmp-IsAntisymmetric q e.id apart) ∙ ap (get (map_of old)) (sym s.id_is) ∙ get_shown old was s.place s.slot still)
        | inr n ↦ elim (eqb_tells q e.id) as (λ _. get (map_of new) q ≡ cond (eq_by_cmp nat_cmp q e.id) None (get (map_of old) q)) [
          | inl y ↦ get_nowhere new q n ∙ sym (ap (λ b. cond b None (get (map_of old) q)) (ap (λ x. eq_by_cmp nat_cmp x e.id) y.1 ∙ own_key nat_cmp_total e.id))
          | inr y ↦ get_nowhere new q n
              ∙ sym (ap (λ b. cond b None (get (map_of old) q)) (other_key nat_cmp-IsAntisymmetric q e.id y.1) ∙ get_nowhere old q (λ j f h. elim (eqb_tells j p) as (λ _. f.id ≢ q) [
                | inl z ↦ λ i. y.1 (sym i ∙ ap (λ s. s.id) (same_slot f e (sym h ∙ ap (λ n. get_or old n None) z.1 ∙ there)))
                | inr z ↦ n j f (others j z.1 ∙ h)
              ]))
        ]
      ]

-- the datum at a right's place is that of its id
pub record IsSeat (slots : List (Option Slot)) (p id : ℕ) : Type 0 where
  pub slot : Slot
  pub there : get_or slots p None ≡ Some slot
  pub id_is : slot.id ≡ id

same_number : (a b : ℕ) → Some a ≡ Some b → a ≡ b
same_number a b h = cc

no_number : (a : ℕ) → None ≡ Some a → ⊥
no_number a h = cc

pub seat_of : (slots : List (Option Slot)) (p id : ℕ) → AreApart slots → get (places_of slots) id ≡ Some p → IsSeat slots p id
seat_of slots p id apart h = elim (search_slots slots id) as (λ _. IsSeat slots p id) [
  | inl s ↦
      let found : get (places_of slots) id ≡ Some s.place = ap (get (places_of slots)) (sym s.id_is) ∙ get_shown place_in slots apart s.place s.slot s.there in
      let same : s.place ≡ p = same_number _ _ (sym found ∙ h) in
      record { slot = s.slot; there = ap (λ n. get_or slots n None) (sym same) ∙ s.there; id_is = s.id_is }
  | inr n ↦ absurd (no_number p (sym (get_nowhere place_in slots id n) ∙ h))
]

pub apart_put : (old new : List (Option Slot)) (p : ℕ) (e : Slot) → AreApart old → get_or new p None ≡ Some e → ((j : ℕ) → j ≢ p → get_or new j None ≡ get_or old j None)
    → ((j : ℕ) (f : Slot) → j ≢ p → get_or old j None ≡ Some f → f.id ≢ e.id) → AreApart new
apart_put old new p e was there others free a b x y ha hb i = elim (eqb_tells a p) as (λ _. a ≡ b) [
  | inl za ↦ elim (eqb_tells b p) as (λ _. a ≡ b) [
    | inl zb ↦ za.1 ∙ sym zb.1
    | inr zb ↦ absurd (free b y zb.1 (sym (others b zb.1) ∙ hb) (sym i ∙ ap (λ s. s.id) (same_slot x e (sym ha ∙ ap (λ n. get_or new n None) za.1 ∙ there))))
  ]
  | inr za ↦ elim (eqb_tells b p) as (λ _. a ≡ b) [
    | inl zb ↦ absurd (free a x za.1 (sym (others a za.1) ∙ ha) (i ∙ ap (λ s. s.id) (same_slot y e (sym hb ∙ ap (λ n. get_or new n None) zb.1 ∙ there))))
    | inr zb ↦ was a b x y (sym (others a za.1) ∙ ha) (sym (others b zb.1) ∙ hb) i
  ]
]

pub set_there : (slots : List (Option Slot)) (p : ℕ) (v : Option Slot) (e : Slot) → get_or slots p None ≡ Some e → get_or (set slots p v) p None ≡ v
set_there [] p v e h = absurd (no_slot e h)
set_there (a ∷ slots) zero v e h = refl
set_there (a ∷ slots) (suc p) v e h = set_there slots p v e h

pub set_others : (slots : List (Option Slot)) (p j : ℕ) (v : Option Slot) → j ≢ p → get_or (set slots p v) j None ≡ get_or slots j None
set_others [] p j v n = refl
set_others (a ∷ slots) zero zero v n = absurd (n refl)
set_others (a ∷ slots) zero (suc j) v n = refl
set_others (a ∷ slots) (suc p) zero v n = refl
set_others (a ∷ slots) (suc p) (suc j) v n = set_others slots p j v (λ i. n (ap suc i))
