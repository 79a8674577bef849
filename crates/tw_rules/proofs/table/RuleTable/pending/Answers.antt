use Rattle.tw_rules.proofs.Names.{ap, rule_in, sym, ◌∙◌}
use Rattle.std.specs.FinMap as map
use Rattle.tw_rules.proofs.Seen.{seen_len}
use Rattle.tw_rules.proofs.table.RuleTable.pending.Goals as goal

pub returns : goal.returns
returns c = c.len.ensures.len ∙ sym (seen_len rule_in c.self.inside.rules.entries c.len.ensures.unique) ∙ ap (λ t. map.len t.rules) c.self.view_is
