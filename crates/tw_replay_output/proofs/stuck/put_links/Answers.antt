use Rattle.tw_replay_output.proofs.ReplayNames.{on_ok_weaker}
use Rattle.tw_replay_output.proofs.stuck.put_links.Goals as goal

pub returns : goal.returns
returns c =
    on_ok_weaker c.put_rules.result
    (λ answered start events is are.
    let look = c.in_ok-lookup.ensures in
    let rules = answered start events look is are in
    (rules.0, (c.in_ok-lookup.lookup.names, look.names_are, rules.1), rules.2)) c.put_rules.ensures
