use Rattle.tw_machine.proofs.Names.{RuleTable, Rules, ap, inserted_view, nat_cmp-IsAntisymmetric, nat_cmp_total, ◌+◌}
use Rattle.tw_machine.proofs.rules.Rules.add.Goals as goal

pub returns-clause-added : goal.returns-clause-added
returns-clause-added c =
    let P : Rules → RuleTable = λ ts. record { pending = ts; next = c.self.inside.next + 1 } in
    rw (← c.self.view_is) (ap P (inserted_view nat_cmp_total nat_cmp-IsAntisymmetric c.self.inside.pending c.insert.new.self c.self.inside.next c.args.rule c.in_ok-insert.ensures.updates))
