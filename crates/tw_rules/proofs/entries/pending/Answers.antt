use Rattle.tw_rules.proofs.Names.{None, ap, entry_of, option_copied, option_map, rule_in, sym, ◌∙◌, ◌≡◌}
use Rattle.tw_rules.proofs.Seen.{get_seen, some_seen}
use Rattle.tw_rules.proofs.entries.pending.Goals as goal

pub unreachable-requires : goal.unreachable-requires
unreachable-requires c =
    let none : entry_of c.args.rules.now.entries c.args.number ≡ None = sym c.get.ensures.value ∙ ap option_copied c.in-None.is in
    some_seen rule_in c.args.rules.now.entries c.args.number none c.requires

pub returns : goal.returns
returns c = get_seen rule_in c.args.rules.now.entries c.args.number ∙ ap (option_map rule_in) (sym c.in-Some.ensures.value)
