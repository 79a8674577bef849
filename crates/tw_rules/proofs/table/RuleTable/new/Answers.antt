use Rattle.tw_rules.proofs.Names.{AreFitting, IsIndexed, [], arith, length, rules_in, subst, sym, ◌∷◌, ◌≡◌}
use Rattle.tw_rules.proofs.Fitting.{fitting_empty}
use Rattle.tw_rules.proofs.Tables.{empty_four}
use Rattle.tw_rules.proofs.table.RuleTable.new.Goals as goal

pub invariant_of-result : goal.invariant_of-result
invariant_of-result c =
    let none : length c.new.result.entries ≡ 0 = c.new.ensures.len in
    let a = c.new-2.ensures in
    let b = c.new-3.ensures in
    let d = c.new-4.ensures in
    let e = c.new-5.ensures in
    record {
      index = subst (λ es. IsIndexed (rules_in es) 1 (c.new-2.result ∷ c.new-3.result ∷ c.new-4.result ∷ c.new-5.result ∷ [])) (sym c.new.ensures.empty)
          (empty_four c.new-2.result c.new-3.result c.new-4.result c.new-5.result (a.asks, a.releases, a.promised) (b.asks, b.releases, b.promised) (d.asks, d.releases, d.promised) (e.asks, e.releases, e.promised));
      blank = c.new-6.ensures.items;
      fits = omega arith;
      fitting = subst (λ es. AreFitting (rules_in es)) (sym c.new.ensures.empty) fitting_empty;
    }
