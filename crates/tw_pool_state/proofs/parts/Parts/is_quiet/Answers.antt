use Rattle.std.proofs.Common.{◌≡◌, ◌<◌, ◌==◌, ℕ, false, true, ◌⊎◌, is_some, None, Some, arith, sym, subst}
use Rattle.tw_pool_state.proofs.PartNames.{MatchBool, bare_rule, nat_tests, next_ask, next_release}
use Rattle.std.specs.FinMap as map
use Rattle.tw_pool_state.proofs.Fitting.{seen}
use Rattle.tw_pool_state.proofs.Law.{in_layout}
use Rattle.tw_pool_state.proofs.Quieting.{quiet_or, running, first_notice, waiting}
use Rattle.tw_pool_state.proofs.parts.Parts.is_quiet.Goals as goal

pub returns-then-running-ne0 : goal.returns-then-running-ne0
returns-then-running-ne0 c = λ verified notices h.
    let some : (map.len c.args.self.now.running_tasks.tasks == 0) ≡ false = grind (arith, nat_tests, c.running.ensures, c.if-running-ne0.true) in
    sym (running c.args.self.now notices some)

pub returns-then-len-ne0 : goal.returns-then-len-ne0
returns-then-len-ne0 c = λ verified notices h.
    let some : (map.len c.args.self.now.tasks.tasks == 0) ≡ false = grind (arith, nat_tests, c.len.ensures, c.if-len-ne0.true) in
    sym (waiting c.args.self.now notices some)

pub returns-then-has_notice : goal.returns-then-has_notice
returns-then-has_notice c = λ verified notices h.
    let n = c.if-has_notice.ensures in
    sym (first_notice c.args.self.now notices h.queued n.0 n.1 n.2)

pub returns : goal.returns
returns c = λ verified notices h.
    let frames : map.len c.args.self.now.running_tasks.tasks ≡ 0 = grind (arith, nat_tests, c.running.ensures, c.if-running-ne0.false) in
    let tasks : map.len c.args.self.now.tasks.tasks ≡ 0 = grind (arith, nat_tests, c.len.ensures, c.if-len-ne0.false) in
    quiet_or c.args.self.now notices c.args.layout.engines h.queued (omega (arith, h.servers, h.runnable.counts.some_server))
    (λ number r there. ((in_layout verified c.args.layout c.args.self.now notices h).rules number (bare_rule r) (seen bare_rule c.args.self.now.rules.rules number (Some r) there)).engine)
    frames tasks (λ server low. c.if-has_notice.ensures server (omega (arith, low, h.servers, c.servers.ensures)))
    c.has_work.result
    (subst (λ n. MatchBool c.has_work.result ((engine : ℕ) × ((is_some (next_ask engine c.args.self.now.rules.rules) ≡ true) ⊎ (is_some (next_release engine c.args.self.now.rules.rules) ≡ true)))
    ((engine : ℕ) → engine < n → (next_ask engine c.args.self.now.rules.rules ≡ None) × (next_release engine c.args.self.now.rules.rules ≡ None))) c.engines.ensures c.has_work.ensures)
