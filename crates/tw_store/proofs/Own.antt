-- Each notice is in the queue of its datum's server.
use Rattle.tw_store.proofs.Names.{AreOwn, Contains, Contains-cons, Contains-cons_cases, IfSome, List, Notice, Option, Queues, Subscriber, [], ap, arith, drop, eqb_tells, get_or, get_or-set_other, get_or-set_same, inl, inr, length, length-map, length-set, map, notice_to, notices_in, queued, set, slice_get, subst, sym, zero, ℕ, ◌%◌, ◌++◌, ◌<◌, ◌∙◌, ◌∷◌, ◌≡◌}
use Rattle.std.specs.declared.option.Option.TheVariants.{None, Some}
use Rattle.std.proofs.lemmas.List.Elements.{Contains-append_cases}

nothing : (n : Notice) → Contains [] n → ⊥
nothing n c = omega (arith, c.1)

-- the notices of a datum are on it
on_it : (id : ℕ) (subscribers : List Subscriber) (n : Notice) → Contains (map (notice_to id) subscribers) n → n.datum ≡ id
on_it id [] n c = absurd (nothing n c)
on_it id (x ∷ xs) n c = elim (Contains-cons_cases (notice_to id x) n (map (notice_to id) xs) c) as (λ _. n.datum ≡ id) [
  | inl is ↦ ap (λ (y : Notice). y.datum) (sym is)
  | inr rest ↦ on_it id xs n rest
]

-- one queue has others, which are its own
own_set : (queues : List (List Notice)) (server : ℕ) (queue : List Notice) → server < length queues → AreOwn queues → ((n : Notice) → Contains queue n → n.datum % length queues ≡ server) → AreOwn (set queues server queue)
own_set queues server queue inside own new other n c = elim (eqb_tells other server) as (λ _. n.datum % length (set queues server queue) ≡ other) [
  | inl same ↦
      let there = subst (λ q. Contains q n) (ap (λ k. get_or (set queues server queue) k []) same.1 ∙ get_or-set_same queues server queue [] inside) c in
      ap (λ k. n.datum % k) (length-set queues server queue) ∙ new n there ∙ sym same.1
  | inr apart ↦ ap (λ k. n.datum % k) (length-set queues server queue) ∙ own other n (subst (λ q. Contains q n) (get_or-set_other queues server other queue [] apart.1) c)
]

-- a datum closes
pub own_notified : (queues : List (List Notice)) (id : ℕ) (subscribers : List Subscriber) → 0 < length queues → AreOwn queues → AreOwn (queued id (map (notice_to id) subscribers) queues)
own_notified queues id subscribers some own = own_set queues (id % length queues) _ inside own each
  where
    inside : id % length queues < length queues
    inside = omega (arith, some)

    each : (n : Notice) → Contains (get_or queues (id % length queues) [] ++ map (notice_to id) subscribers) n → n.datum % length queues ≡ id % length queues
    each n c = elim (Contains-append_cases (get_or queues (id % length queues) []) (map (notice_to id) subscribers) n c) as (λ _. n.datum % length queues ≡ id % length queues) [
      | inl old ↦ own (id % length queues) n old
      | inr new ↦ ap (λ k. k % length queues) (on_it id subscribers n new)
    ]

pub own_after : (queues queues2 : Queues) (id : ℕ) (subscribers : List Subscriber) → 0 < length queues → AreOwn (notices_in queues) → notices_in queues2 ≡ queued id (map (notice_to id) subscribers) (notices_in queues) → AreOwn (notices_in queues2)
own_after queues queues2 id subscribers some own notified =
    subst AreOwn (sym notified) (own_notified (notices_in queues) id subscribers (subst (λ n. 0 < n) (sym (length-map queues (λ q. q.items))) some) own)

-- the oldest notice leaves
in_rest : (queue : List Notice) (n : Notice) → Contains (drop 1 queue) n → Contains queue n
in_rest [] n c = c
in_rest (x ∷ queue) n c = Contains-cons x n queue c

pub own_same : (queues queues2 : Queues) → notices_in queues2 ≡ notices_in queues → AreOwn (notices_in queues) → AreOwn (notices_in queues2)
own_same queues queues2 same own = subst AreOwn (sym same) own

pub own_rest : (queues : List (List Notice)) (server : ℕ) → server < length queues → AreOwn queues → AreOwn (set queues server (drop 1 (get_or queues server [])))
own_rest queues server inside own = own_set queues server _ inside own (λ n c. own server n (in_rest (get_or queues server []) n c))

first_of : (queue : List Notice) (n : Notice) → slice_get queue 0 ≡ Some n → Contains queue n
first_of [] n e = cc
first_of (x ∷ queue) n e = (zero, omega arith, some_is e)
  where
    some_is : Some x ≡ Some n → x ≡ n
    some_is h = cc

pub own_oldest : (queues : List (List Notice)) (server : ℕ) → AreOwn queues → (oldest : Option Notice) → oldest ≡ slice_get (get_or queues server []) 0 → IfSome oldest (λ n. n.datum % length queues ≡ server)
own_oldest queues server own None is = tt
own_oldest queues server own (Some n) is = own server n (first_of (get_or queues server []) n (sym is))
