-- The rules that a table returns at the end rise by their numbers.
use Rattle.tw_rules.proofs.Names.{AllByRecursion, Arg, ErasedRule, Less, List, RuleOf, RulesOf, T, [], entries, entries_sorted, erasure, first, is_lt, less, map, nat_cmp, second, sym, ℕ, ◌<◌, ◌∷◌}
use Rattle.std.specs.FinMap.Entries.{below_all, is_sorted}
use Rattle.std.proofs.lemmas.Cmp.{ranked}
use Rattle.tw_rules.proofs.SameOrder.{RiseStrictly}

below : (k n : ℕ) → T (is_lt (nat_cmp k n)) → k < n
below k n h = ranked k n Less (sym (less (nat_cmp k n) h))

all_below : (k : ℕ) (es : List (ℕ × RuleOf Arg)) → T (below_all nat_cmp k es) → AllByRecursion (λ n. k < n) (map (λ (r : ErasedRule). r.number) (map erasure es))
all_below k [] h = tt
all_below k (e ∷ es) h = (below k e.0 (first _ _ h), all_below k es (second _ _ h))

rise : (es : List (ℕ × RuleOf Arg)) → T (is_sorted nat_cmp es) → RiseStrictly (map (λ (r : ErasedRule). r.number) (map erasure es))
rise [] h = tt
rise (e ∷ es) h = (all_below e.0 es (first _ _ h), rise es (second _ _ h))

pub erased_rise : (rules : RulesOf Arg) → RiseStrictly (map (λ (r : ErasedRule). r.number) (map erasure (entries rules)))
erased_rise rules = rise (entries rules) (entries_sorted rules)
