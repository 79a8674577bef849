use Rattle.tw_rules.proofs.Names.{rule_in, ◌∙◌}
use Rattle.tw_rules.proofs.Seen.{is_some_seen}
use Rattle.tw_rules.proofs.entries.is_pending.Goals as goal

pub returns : goal.returns
returns c = c.contains_key.ensures ∙ is_some_seen rule_in c.args.rules.now.entries c.args.number
