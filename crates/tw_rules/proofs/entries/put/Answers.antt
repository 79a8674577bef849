use Rattle.tw_rules.specs.Entries.{rule_in}
use Rattle.tw_rules.proofs.Seen.{no_entry, seen_put}
use Rattle.tw_rules.proofs.entries.put.Goals as goal

pub unreachable-requires : goal.unreachable-requires
unreachable-requires c =
    let none = no_entry rule_in c.args.rules.now.entries c.args.number c.requires.new in
    let old = c.in-Ok-Some.ensures.old in
    let some = c.in-Ok-Some.field-0-is in
    cc

pub returns-clause-put : goal.returns-clause-put
returns-clause-put c = seen_put rule_in c.args.number c.args.rule c.args.rules.now.entries c.insert.new.self.entries c.in-Ok-None.ensures.updates.0
