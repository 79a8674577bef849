use Rattle.tw_rules.proofs.Names.{None, Some, Table, ap, is_some, next_ask, right_at, rule_in, rules_in, subst, sym, ℕ, ◌∙◌, ◌≡◌}
use Rattle.std.specs.Prelude.{IsSome, slice_get}
use Rattle.tw_rules.proofs.Tables.{agenda_at, agenda_past, ask_found, ask_is, ask_none, ask_past, ask_there}
use Rattle.tw_rules.proofs.Fitting.{asked_right}
use Rattle.tw_rules.proofs.table.RuleTable.next_ask.Goals as goal

pub returns-in_err-agenda-clause-ask : goal.returns-in_err-agenda-clause-ask
returns-in_err-agenda-clause-ask c =
    let t = c.self.inside in
    let past = agenda_past t.agendas c.from.result c.args.engine c.from.ensures c.in_err-agenda.ensures.lookup.0 in
    c.from_residual.ensures ∙ sym (ask_past (rules_in t.rules.entries) t.next t.agendas c.self.invariant.index c.args.engine past) ∙ ap (λ s. next_ask c.args.engine s.rules) c.self.view_is

pub returns-in_err-number-clause-ask : goal.returns-in_err-number-clause-ask
returns-in_err-number-clause-ask c =
    let t = c.self.inside in
    let agenda = c.in_ok-agenda.agenda.now in
    let at = agenda_at t.agendas c.from.result c.args.engine agenda c.from.ensures c.in_ok-agenda.ensures.lookup.0 c.in_ok-agenda.ensures.lookup.1 in
    let none : slice_get agenda.asks.numbers 0 ≡ None = sym c.in_err-number.ensures in
    c.from_residual-in_err-number.ensures ∙ sym (ask_none (rules_in t.rules.entries) t.next t.agendas c.self.invariant.index c.args.engine agenda at none) ∙ ap (λ s. next_ask c.args.engine s.rules) c.self.view_is

pub pending-rule-requires : goal.pending-rule-requires
pending-rule-requires c =
    let t = c.self.inside in
    let agenda = c.in_ok-agenda.agenda.now in
    let at = agenda_at t.agendas c.from.result c.args.engine agenda c.from.ensures c.in_ok-agenda.ensures.lookup.0 c.in_ok-agenda.ensures.lookup.1 in
    let first : slice_get agenda.asks.numbers 0 ≡ Some c.in_ok-number.number = sym c.in_ok-number.ensures in
    let there = ask_there (rules_in t.rules.entries) t.next t.agendas c.self.invariant.index c.args.engine agenda at c.in_ok-number.number first in
    ap is_some there.1

pub unreachable-requires : goal.unreachable-requires
unreachable-requires c =
    let t = c.self.inside in
    let agenda = c.in_ok-agenda.agenda.now in
    let at = agenda_at t.agendas c.from.result c.args.engine agenda c.from.ensures c.in_ok-agenda.ensures.lookup.0 c.in_ok-agenda.ensures.lookup.1 in
    let first : slice_get agenda.asks.numbers 0 ≡ Some c.in_ok-number.number = sym c.in_ok-number.ensures in
    ask_found (rules_in t.rules.entries) t.next t.agendas c.self.invariant.index c.args.engine agenda at c.in_ok-number.number first (rule_in c.pending-rule.result.now) c.pending-rule.ensures (sym c.in_default.ensures)

pub returns-clause-ask : goal.returns-clause-ask
returns-clause-ask c =
    let t = c.self.inside in
    let agenda = c.in_ok-agenda.agenda.now in
    let at = agenda_at t.agendas c.from.result c.args.engine agenda c.from.ensures c.in_ok-agenda.ensures.lookup.0 c.in_ok-agenda.ensures.lookup.1 in
    let first : slice_get agenda.asks.numbers 0 ≡ Some c.in_ok-number.number = sym c.in_ok-number.ensures in
    ap (λ (k : ℕ). Some (k, c.in-Some.parameter)) c.new.ensures
    ∙ sym (ask_is (rules_in t.rules.entries) t.next t.agendas c.self.invariant.index c.args.engine agenda at c.in_ok-number.number first (rule_in c.pending-rule.result.now) c.pending-rule.ensures c.in-Some.parameter (sym c.in-Some.ensures))
    ∙ ap (λ s. next_ask c.args.engine s.rules) c.self.view_is

pub returns-clause-right : goal.returns-clause-right
returns-clause-right c =
    let t = c.self.inside in
    let number = c.in_ok-number.number in
    let right = asked_right (rules_in t.rules.entries) number (rule_in c.pending-rule.result.now) c.in-Some.parameter c.pending-rule.ensures c.self.invariant.fitting (sym c.in-Some.ensures) in
    subst (λ (k : ℕ). IsSome (right_at c.args.self.now.rules k c.in-Some.parameter)) (sym c.new.ensures)
    (subst (λ (s : Table). IsSome (right_at s.rules number c.in-Some.parameter)) c.self.view_is right)
