use Rattle.tw_machine.proofs.Names.{ap, found_view, get, nat_cmp-IsAntisymmetric, nat_cmp_total, rules_of, sym, ℕ, ◌∙◌}
use Rattle.tw_machine.proofs.rules.Rules.get.Goals as goal

pub returns : goal.returns
returns c = rw (← c.self.view_is) (sym (found_view nat_cmp_total nat_cmp-IsAntisymmetric c.self.inside.pending c.number.result _ c.get.ensures.value) ∙ ap (λ (n : ℕ). get (rules_of c.self.inside.pending.entries) n) c.number.ensures)
