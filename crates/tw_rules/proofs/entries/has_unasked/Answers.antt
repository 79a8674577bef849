use Rattle.tw_rules.proofs.Names.{ap, is_some_unasked, option_map, rule_in, sym, ◌∙◌}
use Rattle.tw_rules.proofs.Seen.{get_seen}
use Rattle.tw_rules.proofs.entries.has_unasked.Goals as goal

pub returns-in-Some : goal.returns-in-Some
returns-in-Some c = c.has_unasked.ensures ∙ ap (λ o. is_some_unasked (option_map rule_in o)) c.in-Some.ensures.value ∙ ap is_some_unasked (sym (get_seen rule_in c.args.rules.now.entries c.args.number))

pub returns-in-None : goal.returns-in-None
returns-in-None c = ap (λ o. is_some_unasked (option_map rule_in o)) c.in-None.ensures.value ∙ ap is_some_unasked (sym (get_seen rule_in c.args.rules.now.entries c.args.number))
