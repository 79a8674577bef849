-- Decoding the word of an event returns the event.
use Rattle.tw_pool.proofs.Names.{Actor, Ask, Call, Deliver, End, Engine, Event, HasPlace, List, Local, Release, Server, Take, Worker, [], actor_of, actor_of_place, ap, arith, false, map-append, nat_lt, nat_tests, place_of, refl, true, ℕ, ◌%◌, ◌*◌, ◌++◌, ◌+◌, ◌-◌, ◌/◌, ◌<◌, ◌∙◌, ◌∷◌, ◌≡◌}
use Rattle.tw_pool.specs.Words.{FitsWord, NumbersFit, kind_of, numbers_of, word_of, unpack, unpack_by, events_in}

pub place_low : (a : Actor) → HasPlace a → place_of a < 24
place_low (Engine k) h = omega arith
place_low (Server k) h = omega arith
place_low (Worker k) h = omega arith

pub actor_back : (a : Actor) → HasPlace a → actor_of_place (place_of a) ≡ a
actor_back (Engine k) h = let t : nat_lt k 4 ≡ true = grind (arith, nat_tests) in rw t refl
actor_back (Server k) h =
    let t : nat_lt (4 + k) 4 ≡ false = grind (arith, nat_tests) in
    let u : nat_lt (4 + k) 8 ≡ true = grind (arith, nat_tests) in
    let v : (4 + k) - 4 ≡ k = omega arith in
    rw (t, u) (ap Server v)
actor_back (Worker k) h =
    let t : nat_lt (8 + k) 4 ≡ false = grind (arith, nat_tests) in
    let u : nat_lt (8 + k) 8 ≡ false = grind (arith, nat_tests) in
    let v : (8 + k) - 8 ≡ k = omega arith in
    rw (t, u) (ap Worker v)

kind_low : (e : Event) → kind_of e < 8
kind_low (Take a) = omega arith
kind_low (Local a n) = omega arith
kind_low (Call a) = omega arith
kind_low (End a) = omega arith
kind_low (Ask e r j) = omega arith
kind_low (Deliver s d r j) = omega arith
kind_low (Release e r) = omega arith

again : (e : Event) → NumbersFit e → unpack_by (kind_of e) (actor_of e) (numbers_of e) ≡ e
again (Take a) h = refl
again (Local a n) h = refl
again (Call a) h = refl
again (End a) h = refl
again (Ask e r j) h =
    let few : j < 8 = h.1 in
    let a : (j + 8 * r) / 8 ≡ r = omega arith in
    let b : (j + 8 * r) % 8 ≡ j = omega arith in
    ap (λ x. Ask e x ((j + 8 * r) % 8)) a ∙ ap (Ask e r) b
again (Deliver s d r j) h =
    let rule : r < 16777216 = h.1 in
    let few : j < 8 = h.2 in
    let all = j + 8 * (r + 16777216 * d) in
    let up : (j + 8 * (r + 16777216 * d)) / 8 ≡ r + 16777216 * d = omega arith in
    let a : (r + 16777216 * d) / 16777216 ≡ d = omega arith in
    let b : (r + 16777216 * d) % 16777216 ≡ r = omega arith in
    let c : (j + 8 * (r + 16777216 * d)) % 8 ≡ j = omega arith in
    ap (λ x. Deliver s (x / 16777216) (x % 16777216) (all % 8)) up ∙ ap (λ x. Deliver s x ((r + 16777216 * d) % 16777216) (all % 8)) a ∙ ap (λ x. Deliver s d x (all % 8)) b ∙ ap (Deliver s d r) c
again (Release e r) h = refl

-- the place of who makes it can be read off
pub maker_of : (e : Event) → HasPlace (actor_of e) → word_of e / 8 % 32 ≡ place_of (actor_of e)
maker_of e h = let low = place_low (actor_of e) h in let kind = kind_low e in omega (arith, low, kind)

pub round : (e : Event) → FitsWord e → unpack (word_of e) ≡ e
unfolding unpack
round e h =
    let low = place_low (actor_of e) h.0 in
    let small = kind_low e in
    let kind : word_of e % 8 ≡ kind_of e = omega (arith, low, small) in
    let numbers : word_of e / 256 ≡ numbers_of e = omega (arith, low, small) in
    ap (λ n. unpack_by n (actor_of_place (word_of e / 8 % 32)) (word_of e / 256)) kind
    ∙ ap (λ n. unpack_by (kind_of e) (actor_of_place n) (word_of e / 256)) (maker_of e h.0)
    ∙ ap (λ a. unpack_by (kind_of e) a (word_of e / 256)) (actor_back (actor_of e) h.0)
    ∙ ap (unpack_by (kind_of e) (actor_of e)) numbers
    ∙ again e h.1

pub traced : (words new : List ℕ) (word : ℕ) (e : Event) → FitsWord e → word ≡ word_of e → new ≡ words ++ word ∷ [] → events_in new ≡ events_in words ++ e ∷ []
traced words new word e h is more = ap events_in more ∙ map-append unpack words (word ∷ []) ∙ ap (λ x. events_in words ++ x ∷ []) (ap unpack is ∙ round e h)
