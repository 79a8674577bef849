use Rattle.tw_rules.proofs.Names.{ErasedRule, IsNonDecreasingBy-from_sort, IsPermutation-trans, answers_always, entries, erasure, map, rules}
use Rattle.tw_rules.proofs.SameOrder.{same_order}
use Rattle.tw_rules.proofs.Erasing.{erased_rise}
use Rattle.tw_rules.proofs.table.RuleTable.shut.Goals as goal

pub returns : goal.returns
returns c =
    let sorted = c.sort_unstable_by_key.new.self.items in
    same_order (λ (r : ErasedRule). r.number) (map erasure (entries c.args.self.rules)) sorted (erased_rise c.args.self.rules)
    (IsNonDecreasingBy-from_sort (λ (r : ErasedRule). r.number) sorted (c.sort_unstable_by_key.ensures.sorted (λ (r : ErasedRule). r.number) (answers_always _ _ _ (λ f a r g h. search rules))))
    (IsPermutation-trans _ _ _ c.spend_all-erasure.ensures c.sort_unstable_by_key.ensures.permutation)
