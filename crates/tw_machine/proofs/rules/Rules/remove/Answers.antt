use Rattle.tw_machine.proofs.Names.{RuleTable, Rules, ap, nat_cmp-IsAntisymmetric, nat_cmp_total, remove, removed_view, rules_of, ℕ, ◌∙◌}
use Rattle.tw_machine.proofs.rules.Rules.remove.Goals as goal

pub returns : goal.returns
returns c =
    let P : Rules → RuleTable = λ rs. record { pending = rs; next = c.self.inside.next } in
    rw (← c.self.view_is) (ap P (removed_view nat_cmp_total nat_cmp-IsAntisymmetric c.self.inside.pending c.remove-released.new.self c.number.result c.remove-released.ensures.updates ∙ ap (λ (n : ℕ). remove (rules_of c.self.inside.pending.entries) n) c.number.ensures))
