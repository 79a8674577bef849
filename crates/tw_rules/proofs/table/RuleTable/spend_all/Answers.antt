use Rattle.tw_rules.proofs.Names.{IsPermutation, IsPermutation-map, IsPermutation-pop_more, IsPermutation-refl, [], ap, arith, entries, erasure, length, map, rule_in, rules_in, subst, sym, ◌++◌, ◌∙◌, ◌∷◌, ◌≡◌}
use Rattle.std.proofs.lemmas.List.{append-nil}
use Rattle.tw_rules.proofs.Seen.{entry_out, is_some_seen, no_entries}
use Rattle.tw_rules.proofs.table.RuleTable.spend_all.Goals as goal

pub loop-number-init : goal.loop-number-init
loop-number-init c =
    let t = c.self.inside in
    let size = t.erasure.ok.0 in
    let none : length t.erasure.items ≡ 0 = ap length c.self.invariant.blank in
    let fits = c.self.invariant.fits in
    record {
      whole = subst (λ xs. IsPermutation (map erasure (entries (rules_in t.rules.entries))) (xs ++ map erasure (entries (rules_in t.rules.entries)))) (sym c.self.invariant.blank) (IsPermutation-refl (map erasure (entries (rules_in t.rules.entries))));
      room = omega arith;
    }

pub take-rule-requires : goal.take-rule-requires
take-rule-requires c = sym (is_some_seen rule_in c.loop-number.rules.entries c.in-Some.number) ∙ c.in-Some.ensures

pub loop-number-preserved : goal.loop-number-preserved
loop-number-preserved c =
    let number = c.in-Some.number in
    let rule = rule_in c.take-rule.result in
    let old = c.loop-number.erasure in
    let left = rules_in c.loop-number.rules.entries in
    let rest = rules_in c.take-rule.new.rules.entries in
    let room = c.loop-number.invariant.room in
    let less = c.take-rule.ensures.len in
    let more = c.push_reserved.ensures.len in
    let size = c.push_reserved.ensures.capacity in
    let out : IsPermutation (entries left) ((number, rule) ∷ entries rest) =
    subst (λ m. IsPermutation (entries left) ((number, rule) ∷ entries m)) (sym c.take-rule.ensures.rest) (entry_out left number rule c.take-rule.ensures.taken) in
    record {
      whole = subst (λ xs. IsPermutation (map erasure (entries (rules_in c.self.inside.rules.entries))) (xs ++ map erasure (entries rest))) (sym (c.push_reserved.ensures.items ∙ ap (λ x. old.items ++ x ∷ []) c.spend.ensures))
          (IsPermutation-pop_more _ old.items (map erasure (entries left)) (map erasure (entries rest)) (erasure (number, rule)) c.loop-number.invariant.whole (IsPermutation-map erasure _ _ out));
      room = omega arith;
    }

pub returns : goal.returns
returns c =
    let all_erased = c.loop-number.erasure.items in
    let gone : map erasure (entries (rules_in c.loop-number.rules.entries)) ≡ [] = ap (λ es. map erasure (entries (rules_in es))) c.in_default.ensures ∙ ap (map erasure) no_entries in
    let whole = subst (λ xs. IsPermutation (map erasure (entries (rules_in c.self.inside.rules.entries))) (all_erased ++ xs)) gone c.loop-number.invariant.whole in
    subst (λ s. IsPermutation (map erasure (entries s.rules)) all_erased) c.self.view_is
    (subst (IsPermutation (map erasure (entries (rules_in c.self.inside.rules.entries)))) (append-nil all_erased) whole)
