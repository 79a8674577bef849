use Rattle.tw_rules.proofs.Names.{None, ap, entry_of, option_map, rule_in, sym, ◌∙◌, ◌≡◌}
use Rattle.tw_rules.proofs.Seen.{get_seen, seen_gone, some_seen}
use Rattle.tw_rules.proofs.entries.take.Goals as goal

pub unreachable-requires : goal.unreachable-requires
unreachable-requires c =
    let none : entry_of c.args.rules.now.entries c.args.number ≡ None = sym c.in-None.ensures.value in
    some_seen rule_in c.args.rules.now.entries c.args.number none c.requires

pub returns-clause-taken : goal.returns-clause-taken
returns-clause-taken c = get_seen rule_in c.args.rules.now.entries c.args.number ∙ ap (option_map rule_in) (sym c.in-Some.ensures.value)

pub returns-clause-rest : goal.returns-clause-rest
returns-clause-rest c = seen_gone rule_in c.args.number c.args.rules.now.entries c.remove.new.self.entries c.remove.ensures.updates.0
