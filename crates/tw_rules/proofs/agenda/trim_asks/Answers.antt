use Rattle.tw_rules.proofs.Names.{is_askable, rules_in, sym, true, ◌∙◌, ◌≡◌}
use Rattle.tw_rules.proofs.Changes.{first_passes, none_passes}
use Rattle.tw_rules.proofs.agenda.trim_asks.Goals as goal

pub returns-then-has_unasked-clause-numbers : goal.returns-then-has_unasked-clause-numbers
returns-then-has_unasked-clause-numbers c =
    let rules = rules_in c.args.rules.now.entries in
    let wanting : is_askable rules c.in-Some.number ≡ true = sym c.has_unasked.ensures ∙ c.if-has_unasked.true in
    sym (first_passes (is_askable rules) c.loop-number.asks.numbers c.in-Some.number (sym c.in-Some.ensures) wanting) ∙ c.loop-number.invariant.numbers

pub returns-clause-numbers : goal.returns-clause-numbers
returns-clause-numbers c = sym (none_passes (is_askable (rules_in c.args.rules.now.entries)) c.loop-number.asks.numbers (sym c.in_default.ensures)) ∙ c.loop-number.invariant.numbers
