use Rattle.std.proofs.Common.{◌+◌, List, subst, take}
use Rattle.tw_replay_output.proofs.ReplayNames.{PrintRules, take_all}
use Rattle.tw_types.specs.declared.pending.Link.{Link}
use Rattle.tw_replay_output.proofs.Making.{AddsDiagnostic, one_taken, rule_more}
use Rattle.tw_replay_output.proofs.stuck.put_rules.Goals as goal

pub loop-link-preserved : goal.loop-link-preserved
loop-link-preserved c = λ start events look is are.
    let links = c.args.links.now in
    let i = c.loop-link.link-index in
    let l = c.link-item.result in
    rule_more c.args.lookup.now.names c.args.source.now.text.now start events (take i links) (take (i + 1) links) l c.args.out.now.items c.loop-link.out.items c.put_rule.new.out.items (one_taken links i l c.loop-link-test.true c.link-item.is)
    (c.loop-link.invariant start events look is are) (c.in_ok-put_rule.ensures start events look is are)

pub returns : goal.returns
returns c = λ start events look is are.
    subst (λ (ls : List Link). AddsDiagnostic (PrintRules c.args.lookup.now.names c.args.source.now.text.now start events ls) c.args.out.now.items c.loop-link.out.items) (take_all c.loop-link.link-index c.args.links.now c.loop-link-test.false)
    (c.loop-link.invariant start events look is are)
