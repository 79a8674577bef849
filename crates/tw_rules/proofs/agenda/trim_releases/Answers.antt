use Rattle.tw_rules.proofs.Names.{Contains-permutation, IsPermutation-sym, contains_cases, contains_later, false, get, inl, inr, is_some, rules_in, subst, sym, true, ◌∙◌, ◌≡◌}
use Rattle.tw_rules.proofs.Heaps.{fewer, least_same}
use Rattle.tw_rules.proofs.agenda.trim_releases.Goals as goal

pub returns-then-is_pending-clause-numbers : goal.returns-then-is_pending-clause-numbers
returns-then-is_pending-clause-numbers c =
    let rules = rules_in c.args.rules.now.entries in
    let there : is_some (get rules c.in-Some.number) ≡ true = sym c.is_pending.ensures ∙ c.if-is_pending.true in
    record {
      sound = c.loop-number.invariant.sound;
      kept = c.loop-number.invariant.kept;
      least = λ n least. subst (λ k. is_some (get rules k) ≡ true) (least_same c.loop-number.releases.numbers c.in-Some.number n c.in-Some.ensures least) there;
    }

pub loop-number-smaller : goal.loop-number-smaller
loop-number-smaller c = fewer c.loop-number.releases.numbers c.drop_first.new.self.numbers c.in-Some.number (c.drop_first.ensures.rest c.in-Some.number c.in-Some.ensures)

pub loop-number-preserved : goal.loop-number-preserved
loop-number-preserved c =
    let rules = rules_in c.args.rules.now.entries in
    let number = c.in-Some.number in
    let new = c.drop_first.new.self.numbers in
    let moved = c.drop_first.ensures.rest number c.in-Some.ensures in
    let gone : is_some (get rules number) ≡ false = sym c.is_pending.ensures ∙ c.if-is_pending.false in
    record {
      sound = λ n there. c.loop-number.invariant.sound n (Contains-permutation _ _ n (IsPermutation-sym _ _ moved) (contains_later number new n there));
      kept = λ n there pending. elim (contains_cases number new n (Contains-permutation _ _ n moved (c.loop-number.invariant.kept n there pending))) [
        | inl same ↦ (let not_there : is_some (get rules n) ≡ false = subst (λ k. is_some (get rules k) ≡ false) same gone in absurd cc)
        | inr still ↦ still
      ];
      promised = c.drop_first.ensures.promised ∙ c.loop-number.invariant.promised;
      room = λ has. c.drop_first.ensures.room (c.loop-number.invariant.room has);
    }
