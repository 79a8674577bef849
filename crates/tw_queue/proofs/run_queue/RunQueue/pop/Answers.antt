use Rattle.tw_queue.proofs.Names.{IsFirst, IsPermutation, None, Option, Rank, Some, arith, heap_items, length, refl, subst, ℕ, ◌++◌, ◌<◌, ◌∷◌, ◌≡◌, ◌≤◌}
use Rattle.std.specs.Option.{IfNone, IfSome, IsSome, MatchOption}
use Rattle.tw_queue.proofs.Runs.{rest_gives, rest_less, run_gives}
use Rattle.tw_queue.proofs.run_queue.RunQueue.pop.Goals as goal

none_of_run : (r : Option Rank) (Q : Rank → Type 0) (n m k : ℕ) → MatchOption r ((n ≡ 0) × (m ≡ 0)) Q → n ≡ k → IfNone r (k ≤ 0)
none_of_run None Q n m k none count = let least = none.0 in omega arith
none_of_run (Some x) Q n m k some count = tt

none_of_rest : (r : Option Rank) (n k : ℕ) → IfNone r (n ≡ 0) → n ≡ k → IfNone r (k ≤ 0)
none_of_rest None n k none count = omega arith
none_of_rest (Some x) n k none count = tt

some_of_rest : (r : Option Rank) (n k : ℕ) → (IsSome r → 0 < n) → n ≡ k → IfSome r (λ x. 0 < k)
some_of_rest None n k some count = tt
some_of_rest (Some x) n k some count = let least = some refl in omega arith

upper_of_rest : (r : Option Rank) (P Q : Type 0) (U : Rank → Type 0) → P → IfSome r (λ x. P → Q × U x) → IfSome r U
upper_of_rest None P Q U p upper = tt
upper_of_rest (Some x) P Q U p upper = let both = upper p in both.1

pub returns-then-is_in_front-clause-first : goal.returns-then-is_in_front-clause-first
returns-then-is_in_front-clause-first c =
    let run = c.self.inside.run in
    let front = c.if-is_in_front.ensures.yes refl in
    let few : IfNone c.pop_front.result (length run.items ≤ 0) = none_of_run _ _ _ _ _ c.pop_front.ensures.cases run.ok.0 in
    subst (λ p. IsFirst p.ranks c.pop_front.result) c.self.view_is
    (run_gives run.items (heap_items c.self.inside.rest) c.pop_front.new.self.items c.pop_front.result c.pop_front.ensures.items few c.self.invariant.0 front)

pub returns-else-is_in_front-clause-first : goal.returns-else-is_in_front-clause-first
returns-else-is_in_front-clause-first c =
    let run = c.self.inside.run in
    let heap = c.self.inside.rest.data in
    let front = c.if-is_in_front.ensures.no refl in
    let some : IfSome c.pop.result (λ x. 0 < length heap.items) = some_of_rest _ _ _ c.pop.ensures.variant.0 heap.ok.0 in
    let few : IfNone c.pop.result (length heap.items ≤ 0) = none_of_rest _ _ _ c.pop.ensures.none heap.ok.0 in
    subst (λ p. IsFirst p.ranks c.pop.result) c.self.view_is
    (rest_gives run.items heap.items c.pop.result c.pop.ensures.top some few (upper_of_rest _ _ _ _ c.self.invariant.1 c.pop.ensures.heap_order) front)

pub returns-else-is_in_front-clause-popped : goal.returns-else-is_in_front-clause-popped
returns-else-is_in_front-clause-popped c =
    let run = c.self.inside.run in
    let rest = heap_items c.self.inside.rest in
    let new = heap_items c.pop.new.self in
    subst (λ p. IfSome c.pop.result (λ rank. IsPermutation p.ranks (rank ∷ (run.items ++ new)))) c.self.view_is
    (rest_less run.items rest new c.pop.result c.pop.ensures.permutation)
