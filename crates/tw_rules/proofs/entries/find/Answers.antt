use Rattle.tw_rules.proofs.Names.{ap, option_map, rule_in, sym, ◌∙◌}
use Rattle.tw_rules.proofs.Seen.{get_seen}
use Rattle.tw_rules.proofs.entries.find.Goals as goal

pub returns : goal.returns
returns c = ap (option_map rule_in) c.get.ensures.value ∙ sym (get_seen rule_in c.args.rules.now.entries c.args.number)
