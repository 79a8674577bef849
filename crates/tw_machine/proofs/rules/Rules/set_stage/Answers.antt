use Rattle.tw_machine.proofs.Names.{None, Rule, RuleTable, Rules, Some, ap, found_view, insert, nat_cmp-IsAntisymmetric, nat_cmp_total, rules_of, written_view, ◌∙◌}
use Rattle.tw_machine.specs.contracts.rules.Rules.{the_view}
use Rattle.tw_machine.proofs.Numbered.{staged_none, staged_some}
use Rattle.tw_machine.proofs.rules.Rules.set_stage.Goals as goal

pub returns-in_default : goal.returns-in_default
returns-in_default c =
    let P : Rules → RuleTable = λ rs. record { pending = rs; next = c.self.inside.next } in
    let none = found_view nat_cmp_total nat_cmp-IsAntisymmetric c.self.inside.pending c.number.result None c.in_default.ensures.value in
    rw (← c.self.view_is) (ap (λ m. P (rules_of m.entries)) c.get_mut.follows.holds-at-none ∙ staged_none (the_view c.self.inside) c.args.parameter c.args.stage c.number.result c.args.number c.number.ensures none)

pub returns : goal.returns
returns c =
    let P : Rules → RuleTable = λ rs. record { pending = rs; next = c.self.inside.next } in
    let some = found_view nat_cmp_total nat_cmp-IsAntisymmetric c.self.inside.pending c.number.result (Some c.in-Some.rule.now) c.in-Some.ensures.value in
    let written = written_view nat_cmp_total nat_cmp-IsAntisymmetric c.self.inside.pending (c.get_mut.follows.lender c.set_stage.new.self) c.number.result c.in-Some.rule.now c.set_stage.new.self c.in-Some.ensures.value (c.get_mut.follows.holds c.set_stage.new.self) in
    rw (← c.self.view_is) (ap P written ∙ ap (λ (r : Rule). P (insert (rules_of c.self.inside.pending.entries) c.number.result r)) c.set_stage.ensures ∙ staged_some (the_view c.self.inside) c.args.parameter c.args.stage c.number.result c.args.number c.in-Some.rule.now c.number.ensures some)
