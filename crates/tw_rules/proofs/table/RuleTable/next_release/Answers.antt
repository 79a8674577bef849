use Rattle.tw_rules.proofs.Names.{Some, ap, next_release, rules_in, sym, ℕ, ◌∙◌}
use Rattle.tw_rules.proofs.Tables.{agenda_at, agenda_past, release_is, release_none, release_past}
use Rattle.tw_rules.proofs.table.RuleTable.next_release.Goals as goal

pub returns-in_err-agenda : goal.returns-in_err-agenda
returns-in_err-agenda c =
    let t = c.self.inside in
    let past = agenda_past t.agendas c.from.result c.args.engine c.from.ensures c.in_err-agenda.ensures.lookup.0 in
    c.from_residual.ensures ∙ sym (release_past (rules_in t.rules.entries) t.next t.agendas c.self.invariant.index c.args.engine past) ∙ ap (λ s. next_release c.args.engine s.rules) c.self.view_is

pub returns-in_err-number : goal.returns-in_err-number
returns-in_err-number c =
    let t = c.self.inside in
    let agenda = c.in_ok-agenda.agenda.now in
    let at = agenda_at t.agendas c.from.result c.args.engine agenda c.from.ensures c.in_ok-agenda.ensures.lookup.0 c.in_ok-agenda.ensures.lookup.1 in
    c.from_residual-in_err-number.ensures ∙ sym (release_none (rules_in t.rules.entries) t.next t.agendas c.self.invariant.index c.args.engine agenda at c.in_err-number.ensures) ∙ ap (λ s. next_release c.args.engine s.rules) c.self.view_is

pub returns : goal.returns
returns c =
    let t = c.self.inside in
    let agenda = c.in_ok-agenda.agenda.now in
    let at = agenda_at t.agendas c.from.result c.args.engine agenda c.from.ensures c.in_ok-agenda.ensures.lookup.0 c.in_ok-agenda.ensures.lookup.1 in
    ap (λ (k : ℕ). Some k) c.new.ensures
    ∙ sym (release_is (rules_in t.rules.entries) t.next t.agendas c.self.invariant.index c.args.engine agenda at c.in_ok-number.number c.in_ok-number.ensures)
    ∙ ap (λ s. next_release c.args.engine s.rules) c.self.view_is
