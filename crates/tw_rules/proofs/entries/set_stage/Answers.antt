use Rattle.tw_rules.proofs.Names.{Arg, IsSome, List, RuleOf, Some, Stage, ap, get, insert, is_releasable, option_map, refl, rule_in, rules_in, slice_set, subst, sym, ◌∙◌, ◌≡◌}
use Rattle.tw_rules.specs.declared.pending.Pending.{Pending}
use Rattle.tw_rules.proofs.Seen.{get_seen, seen_put, some_seen}
use Rattle.tw_rules.proofs.Tables.{staged_is}
use Rattle.tw_rules.proofs.entries.set_stage.Goals as goal

pub unreachable-requires : goal.unreachable-requires
unreachable-requires c = some_seen rule_in c.args.rules.now.entries c.args.number (sym c.in-None.ensures.value) c.requires

pub returns-clause-staged : goal.returns-clause-staged
returns-clause-staged c =
    let old = c.args.rules.now in
    let number = c.args.number in
    let p = c.in-Some.pending.now in
    let w : Pending = record { engine = p.engine; action = p.action; args = p.args; stages = c.set.new.self } in
    let there : get (rules_in old.entries) number ≡ Some (rule_in p) = get_seen rule_in old.entries number ∙ ap (option_map rule_in) (sym c.in-Some.ensures.value) in
    let updates = (c.get_mut.follows.holds w).3 (subst IsSome c.in-Some.ensures.value refl) in
    seen_put rule_in number w old.entries (c.get_mut.follows.lender w).entries updates.0
    ∙ ap (λ (ss : List Stage). insert (rules_in old.entries) number (rule_in (record { engine = p.engine; action = p.action; args = p.args; stages = ss }))) (c.set.ensures ∙ ap (λ k. slice_set p.stages k c.args.stage) c.from.ensures)
    ∙ sym (staged_is (rules_in old.entries) number c.args.parameter c.args.stage (rule_in p) there)

pub returns-clause-engine : goal.returns-clause-engine
returns-clause-engine c =
    let old = c.args.rules.now in
    let number = c.args.number in
    let p = c.in-Some.pending.now in
    let w : Pending = record { engine = p.engine; action = p.action; args = p.args; stages = c.set.new.self } in
    let updates = (c.get_mut.follows.holds w).3 (subst IsSome c.in-Some.ensures.value refl) in
    let here : get (rules_in (c.get_mut.follows.lender w).entries) number ≡ Some (rule_in w) = get_seen rule_in (c.get_mut.follows.lender w).entries number ∙ ap (option_map rule_in) updates.1 in
    ap (option_map (λ (rule : RuleOf Arg). rule.engine)) here

pub returns-clause-releasable : goal.returns-clause-releasable
returns-clause-releasable c =
    let old = c.args.rules.now in
    let number = c.args.number in
    let p = c.in-Some.pending.now in
    let w : Pending = record { engine = p.engine; action = p.action; args = p.args; stages = c.set.new.self } in
    let updates = (c.get_mut.follows.holds w).3 (subst IsSome c.in-Some.ensures.value refl) in
    let here : get (rules_in (c.get_mut.follows.lender w).entries) number ≡ Some (rule_in w) = get_seen rule_in (c.get_mut.follows.lender w).entries number ∙ ap (option_map rule_in) updates.1 in
    ap (option_map is_releasable) here ∙ ap Some (sym c.is_releasable.ensures)
