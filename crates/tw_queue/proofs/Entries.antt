-- The tasks in the slots, seen as a finite map.
use Rattle.tw_queue.proofs.Names.{AreApart, Arg, IsChangedAt, List, None, Option, Some, TaskOf, TasksOf, Waiting, [], ap, arith, cond, count_by, eq_by_cmp, false, find, get, get-from_entries, get-insert, get-remove, get_or, inl, inr, insert, is_some, len, len-empty, len-insert, nat_cmp, nat_cmp-IsAntisymmetric, nat_cmp_total, numbered, refl, remove, same_map, slot_at, suc, sum_by-cons, sym, task_in, tasks_in, true, zero, ℕ, ◌+◌, ◌<◌, ◌∙◌, ◌∷◌, ◌≡◌, ◌≢◌, ◌⊎◌}
use Rattle.std.proofs.lemmas.Bool.Decides.{eqb_tells}
use Rattle.tw_types.proofs.Orders.{other_key, own_key}
use Rattle.tw_queue.proofs.Indexing.{IsUpdated}

abbrev Slots : Type 0
Slots = List (Option Waiting)

same_entry : (v w : Waiting) → Some v ≡ Some w → v ≡ w
same_entry v w h = cc

no_entry : (w : Waiting) → None ≡ Some w → ⊥
no_entry w h = cc

-- ---- looking up a number

-- the task in a slot, the first with its number
find_here : (slots : Slots) (p : ℕ) (w : Waiting) → get_or slots p None ≡ Some w
    → ((j : ℕ) (v : Waiting) → j < p → get_or slots j None ≡ Some v → v.task.no ≢ w.task.no) → find nat_cmp w.task.no (numbered slots) ≡ Some (task_in w)
find_here [] p w h u = absurd (no_entry w h)
find_here (None ∷ slots) zero w h u = absurd (no_entry w h)
find_here (None ∷ slots) (suc p) w h u = find_here slots p w h (λ j v l q. u (suc j) v (omega (arith, l)) q)
find_here (Some a ∷ slots) zero w h u =
    let is : a ≡ w = same_entry a w h in
    let here : eq_by_cmp nat_cmp w.task.no a.task.no ≡ true = ap (eq_by_cmp nat_cmp w.task.no) (ap (λ v. v.task.no) is) ∙ own_key nat_cmp_total w.task.no in
    ap (λ b. cond b (Some (task_in a)) (find nat_cmp w.task.no (numbered slots))) here ∙ ap (λ v. Some (task_in v)) is
find_here (Some a ∷ slots) (suc p) w h u =
    let not_here : eq_by_cmp nat_cmp w.task.no a.task.no ≡ false = other_key nat_cmp-IsAntisymmetric w.task.no a.task.no (λ i. u zero a (omega arith) refl (sym i)) in
    ap (λ b. cond b (Some (task_in a)) (find nat_cmp w.task.no (numbered slots))) not_here
    ∙ find_here slots p w h (λ j v l q. u (suc j) v (omega (arith, l)) q)

-- no slot has a task of the number
abbrev pub IsNowhere : ℕ → Slots → Type 0
IsNowhere number slots = (p : ℕ) (w : Waiting) → slot_at slots p ≡ Some w → w.task.no ≢ number

find_none : (slots : Slots) (q : ℕ) → IsNowhere q slots → find nat_cmp q (numbered slots) ≡ None
find_none [] q h = refl
find_none (None ∷ slots) q h = find_none slots q (λ p w i. h (suc p) w i)
find_none (Some a ∷ slots) q h = ap (λ b. cond b (Some (task_in a)) (find nat_cmp q (numbered slots))) (other_key nat_cmp-IsAntisymmetric q a.task.no (λ i. h zero a refl (sym i)))
    ∙ find_none slots q (λ p w i. h (suc p) w i)

-- a slot has one
pub record HasEntry (number : ℕ) (entry : ℕ → Option Waiting) : Type 0 where
  pub slot : ℕ
  pub waiting : Waiting
  pub there : entry slot ≡ Some waiting
  pub number_is : waiting.task.no ≡ number

later : (a : Option Waiting) (slots : Slots) (q : ℕ) → HasEntry q (slot_at slots) → HasEntry q (slot_at (a ∷ slots))
later a slots q s = record { slot = suc s.slot; waiting = s.waiting; there = s.there; number_is = s.number_is }

nowhere_none : (slots : Slots) (q : ℕ) → IsNowhere q slots → IsNowhere q (None ∷ slots)
nowhere_none slots q n zero w h = absurd (no_entry w h)
nowhere_none slots q n (suc p) w h = n p w h

nowhere_some : (a : Waiting) (slots : Slots) (q : ℕ) → a.task.no ≢ q → IsNowhere q slots → IsNowhere q (Some a ∷ slots)
nowhere_some a slots q y n zero w h = λ i. y (ap (λ v. v.task.no) (same_entry a w h) ∙ i)
nowhere_some a slots q y n (suc p) w h = n p w h

search_slots : (slots : Slots) (q : ℕ) → HasEntry q (slot_at slots) ⊎ IsNowhere q slots
search_slots [] q = inr (λ p w h i. no_entry w h)
search_slots (None ∷ slots) q = elim (search_slots slots q) as (λ _. HasEntry q (slot_at (None ∷ slots)) ⊎ IsNowhere q (None ∷ slots)) [
  | inl s ↦ inl (later None slots q s)
  | inr n ↦ inr (nowhere_none slots q n)
]
search_slots (Some a ∷ slots) q = elim (eqb_tells a.task.no q) as (λ _. HasEntry q (slot_at (Some a ∷ slots)) ⊎ IsNowhere q (Some a ∷ slots)) [
  | inl y ↦ inl (record { slot = zero; waiting = a; there = refl; number_is = y.1 })
  | inr y ↦ elim (search_slots slots q) as (λ _. HasEntry q (slot_at (Some a ∷ slots)) ⊎ IsNowhere q (Some a ∷ slots)) [
    | inl s ↦ inl (later (Some a) slots q s)
    | inr n ↦ inr (nowhere_some a slots q y.1 n)
  ]
]

get_here : (slots : Slots) → AreApart (slot_at slots) → (p : ℕ) (w : Waiting) → slot_at slots p ≡ Some w → get (tasks_in slots) w.task.no ≡ Some (task_in w)
get_here slots apart p w h =
    get-from_entries nat_cmp_total (numbered slots) w.task.no
    ∙ find_here slots p w h (λ j v l q i. absurd (let same : j ≡ p = apart j p v w q h i in omega (arith, same, l)))

get_nowhere : (slots : Slots) (q : ℕ) → IsNowhere q slots → get (tasks_in slots) q ≡ None
get_nowhere slots q h = get-from_entries nat_cmp_total (numbered slots) q ∙ find_none slots q h

-- ---- the map of them

-- each entry is a task of the map, and each task of the map an entry
pub record AreSeen (entry : ℕ → Option Waiting) (tasks : TasksOf Arg) : Type 0 where
  pub here : (slot : ℕ) (w : Waiting) → entry slot ≡ Some w → get tasks w.task.no ≡ Some (task_in w)
  pub found : (number : ℕ) (t : TaskOf Arg) → get tasks number ≡ Some t → (s : HasEntry number entry) × (task_in s.waiting ≡ t)

same_task : (t u : TaskOf Arg) → Some t ≡ Some u → t ≡ u
same_task t u h = cc

no_task : (t : TaskOf Arg) → None ≡ Some t → ⊥
no_task t h = cc

pub seen : (slots : Slots) → AreApart (slot_at slots) → AreSeen (slot_at slots) (tasks_in slots)
seen slots apart = record {
  here = get_here slots apart;
  found = λ q t e. elim (search_slots slots q) as (λ _. (s : HasEntry q (slot_at slots)) × (task_in s.waiting ≡ t)) [
    | inl s ↦ (s, same_task _ _ (sym (get_here slots apart s.slot s.waiting s.there) ∙ ap (get (tasks_in slots)) s.number_is ∙ e))
    | inr n ↦ absurd (no_task t (sym (get_nowhere slots q n) ∙ e))
  ];
}

-- a number that the map doesn't have
pub fresh : (slots : Slots) → AreApart (slot_at slots) → (q : ℕ) → get (tasks_in slots) q ≡ None → IsNowhere q slots
fresh slots apart q none p w h i = no_task (task_in w) (sym none ∙ ap (get (tasks_in slots)) (sym i) ∙ get_here slots apart p w h)

pub updated : (slot : ℕ) (w : Option Waiting) (old new : Slots) → IsChangedAt slot w old new → IsUpdated slot w (slot_at old) (slot_at new)
updated slot w old new h = record { here = h.here; others = λ q apart. h.others q (λ e. apart (sym e)) }

-- ---- a task is added or removed

pub apart_put : (p : ℕ) (w : Waiting) (old new : Slots) → AreApart (slot_at old) → IsNowhere w.task.no old → IsChangedAt p (Some w) old new → AreApart (slot_at new)
apart_put p w old new was free changed a b x y ha hb i = elim (eqb_tells a p) as (λ _. a ≡ b) [
  | inl za ↦ elim (eqb_tells b p) as (λ _. a ≡ b) [
    | inl zb ↦ za.1 ∙ sym zb.1
    | inr zb ↦ absurd (free b y (sym (changed.others b zb.1) ∙ hb) (sym i ∙ ap (λ v. v.task.no) (same_entry x w (sym ha ∙ ap (slot_at new) za.1 ∙ changed.here))))
  ]
  | inr za ↦ elim (eqb_tells b p) as (λ _. a ≡ b) [
    | inl zb ↦ absurd (free a x (sym (changed.others a za.1) ∙ ha) (i ∙ ap (λ v. v.task.no) (same_entry y w (sym hb ∙ ap (slot_at new) zb.1 ∙ changed.here))))
    | inr zb ↦ was a b x y (sym (changed.others a za.1) ∙ ha) (sym (changed.others b zb.1) ∙ hb) i
  ]
]

-- a task that is left was there before
still_there : (p : ℕ) (old new : Slots) → IsChangedAt p None old new → (q : ℕ) (v : Waiting) → slot_at new q ≡ Some v → slot_at old q ≡ Some v
still_there p old new changed q v e = sym (changed.others q (λ i. no_entry v (sym changed.here ∙ ap (slot_at new) (sym i) ∙ e))) ∙ e

apart_gone : (p : ℕ) (old new : Slots) → AreApart (slot_at old) → IsChangedAt p None old new → AreApart (slot_at new)
apart_gone p old new was changed a b x y ha hb i = was a b x y (still_there p old new changed a x ha) (still_there p old new changed b y hb) i

pub tasks_put : (p : ℕ) (w : Waiting) (old new : Slots) → AreApart (slot_at old) → IsNowhere w.task.no old → slot_at old p ≡ None → IsChangedAt p (Some w) old new
    → tasks_in new ≡ insert (tasks_in old) w.task.no (task_in w)
tasks_put p w old new was unused free changed = same_map nat_cmp_total nat_cmp-IsAntisymmetric _ _ (λ q. at q ∙ sym (get-insert nat_cmp_total (tasks_in old) w.task.no (task_in w) q))
  where
    is : AreApart (slot_at new)
    is = apart_put p w old new was unused changed

    at : (q : ℕ) → get (tasks_in new) q ≡ cond (eq_by_cmp nat_cmp q w.task.no) (Some (task_in w)) (get (tasks_in old) q)
    at q = elim (eqb_tells q w.task.no) as (λ _. get (tasks_in new) q ≡ cond (eq_by_cmp nat_cmp q w.task.no) (Some (task_in w)) (get (tasks_in old) q)) [
      | inl y ↦ ap (get (tasks_in new)) y.1 ∙ get_here new is p w changed.here
          ∙ sym (ap (λ b. cond b (Some (task_in w)) (get (tasks_in old) q)) (ap (λ x. eq_by_cmp nat_cmp x w.task.no) y.1 ∙ own_key nat_cmp_total w.task.no))
      | inr y ↦ elim (search_slots old q) as (λ _. get (tasks_in new) q ≡ cond (eq_by_cmp nat_cmp q w.task.no) (Some (task_in w)) (get (tasks_in old) q)) [
        | inl s ↦
            let elsewhere : s.slot ≢ p = λ i. no_entry s.waiting (sym free ∙ ap (slot_at old) (sym i) ∙ s.there) in
            let still : slot_at new s.slot ≡ Some s.waiting = changed.others s.slot elsewhere ∙ s.there in
            ap (get (tasks_in new)) (sym s.number_is) ∙ get_here new is s.slot s.waiting still
            ∙ sym (ap (λ b. cond b (Some (task_in w)) (get (tasks_in old) q)) (other_key nat_cmp-IsAntisymmetric q w.task.no y.1)
            ∙ ap (get (tasks_in old)) (sym s.number_is) ∙ get_here old was s.slot s.waiting s.there)
        | inr n ↦
            get_nowhere new q (λ j v h. elim (eqb_tells j p) as (λ _. v.task.no ≢ q) [
              | inl z ↦ λ i. y.1 (sym i ∙ ap (λ x. x.task.no) (same_entry v w (sym h ∙ ap (slot_at new) z.1 ∙ changed.here)))
              | inr z ↦ n j v (sym (changed.others j z.1) ∙ h)
            ])
            ∙ sym (ap (λ b. cond b (Some (task_in w)) (get (tasks_in old) q)) (other_key nat_cmp-IsAntisymmetric q w.task.no y.1) ∙ get_nowhere old q n)
      ]
    ]

pub tasks_gone : (p : ℕ) (w : Waiting) (old new : Slots) → AreApart (slot_at old) → slot_at old p ≡ Some w → IsChangedAt p None old new
    → tasks_in new ≡ remove (tasks_in old) w.task.no
tasks_gone p w old new was there changed = same_map nat_cmp_total nat_cmp-IsAntisymmetric _ _ (λ q. at q ∙ sym (get-remove nat_cmp_total (tasks_in old) w.task.no q))
  where
    is : AreApart (slot_at new)
    is = apart_gone p old new was changed

    at : (q : ℕ) → get (tasks_in new) q ≡ cond (eq_by_cmp nat_cmp q w.task.no) None (get (tasks_in old) q)
    at q = elim (search_slots new q) as (λ _. get (tasks_in new) q ≡ cond (eq_by_cmp nat_cmp q w.task.no) None (get (tasks_in old) q)) [
      | inl s ↦
          let elsewhere : s.slot ≢ p = λ i. no_entry s.waiting (sym changed.here ∙ ap (slot_at new) (sym i) ∙ s.there) in
          let still : slot_at old s.slot ≡ Some s.waiting = sym (changed.others s.slot elsewhere) ∙ s.there in
          let apart : q ≢ w.task.no = λ i. elsewhere (was s.slot p s.waiting w still there (s.number_is ∙ i)) in
          ap (get (tasks_in new)) (sym s.number_is) ∙ get_here new is s.slot s.waiting s.there
          ∙ sym (ap (λ b. cond b None (get (tasks_in old) q)) (other_key nat_cmp-IsAntisymmetric q w.task.no apart) ∙ ap (get (tasks_in old)) (sym s.number_is) ∙ get_here old was s.slot s.waiting still)
      | inr n ↦ elim (eqb_tells q w.task.no) as (λ _. get (tasks_in new) q ≡ cond (eq_by_cmp nat_cmp q w.task.no) None (get (tasks_in old) q)) [
        | inl y ↦ get_nowhere new q n ∙ sym (ap (λ b. cond b None (get (tasks_in old) q)) (ap (λ x. eq_by_cmp nat_cmp x w.task.no) y.1 ∙ own_key nat_cmp_total w.task.no))
        | inr y ↦ get_nowhere new q n
            ∙ sym (ap (λ b. cond b None (get (tasks_in old) q)) (other_key nat_cmp-IsAntisymmetric q w.task.no y.1) ∙ get_nowhere old q (λ j v h. elim (eqb_tells j p) as (λ _. v.task.no ≢ q) [
              | inl z ↦ λ i. y.1 (sym i ∙ ap (λ x. x.task.no) (same_entry v w (sym h ∙ ap (slot_at old) z.1 ∙ there)))
              | inr z ↦ n j v (changed.others j z.1 ∙ h)
            ]))
      ]
    ]

-- ---- how many there are

apart_later : (a : Option Waiting) (slots : Slots) → AreApart (slot_at (a ∷ slots)) → AreApart (slot_at slots)
apart_later a slots apart p q v w e f i = let same = apart (suc p) (suc q) v w e f i in omega arith

pub tasks_len : (slots : Slots) → AreApart (slot_at slots) → len (tasks_in slots) ≡ count_by is_some slots
tasks_len [] apart = len-empty nat_cmp (TaskOf Arg)
tasks_len (None ∷ slots) apart = omega (arith, tasks_len slots (apart_later None slots apart), sum_by-cons (λ o. cond (is_some o) 1 0) None slots)
tasks_len (Some w ∷ slots) apart =
    let none : get (tasks_in slots) w.task.no ≡ None = get_nowhere slots w.task.no (λ p v h i. let same = apart (suc p) 0 v w h refl i in omega arith) in
    let rest = tasks_len slots (apart_later (Some w) slots apart) in
    let more : len (insert (tasks_in slots) w.task.no (task_in w)) ≡ len (tasks_in slots) + 1 =
    len-insert nat_cmp_total (tasks_in slots) w.task.no (task_in w) ∙ ap (λ o. cond (is_some o) (len (tasks_in slots)) (len (tasks_in slots) + 1)) none in
    omega (arith, rest, more, sum_by-cons (λ o. cond (is_some o) 1 0) (Some w) slots)
