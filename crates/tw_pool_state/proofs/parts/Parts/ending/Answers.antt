use Rattle.std.proofs.Common.{◌≡◌, ◌==◌, ◌∙◌, true, false, arith, sym}
use Rattle.std.proofs.lemmas.Bool.Decides.{nat_tests}
use Rattle.std.specs.FinMap as map
use Rattle.tw_pool_state.proofs.Quieting.{ended_quiet, ended_stuck, not_ended}
use Rattle.tw_pool_state.proofs.parts.Parts.ending.Goals as goal

pub returns-then-not-is_quiet : goal.returns-then-not-is_quiet
returns-then-not-is_quiet c = λ verified notices h. not_ended c.args.self.now notices (sym (c.is_quiet.ensures verified notices h) ∙ c.if-not-is_quiet.true)

pub returns-then-pending-eq0 : goal.returns-then-pending-eq0
returns-then-pending-eq0 c = λ verified notices h.
    let none : (map.len c.args.self.now.rules.rules == 0) ≡ true = grind (arith, nat_tests, c.pending-pending.ensures, c.if-pending-eq0.true) in
    ended_quiet c.args.self.now notices (sym (c.is_quiet.ensures verified notices h) ∙ c.if-not-is_quiet.false) none

pub returns-else-pending-eq0 : goal.returns-else-pending-eq0
returns-else-pending-eq0 c = λ verified notices h.
    let some : (c.pending-pending.result == 0) ≡ false = grind (arith, nat_tests, c.if-pending-eq0.false) in
    ended_stuck c.args.self.now notices (sym (c.is_quiet.ensures verified notices h) ∙ c.if-not-is_quiet.false) c.pending-pending.result c.pending-pending.ensures some
