use Rattle.tw_replay_output.proofs.ReplayNames.{on_ok_weaker}
use Rattle.tw_replay_output.proofs.Making.{none_printed, rule_printed, there}
use Rattle.tw_replay_output.proofs.stuck.put_rule.Goals as goal

pub returns-in_default : goal.returns-in_default
returns-in_default c = λ start events look is are. none_printed c.args.lookup.now.names c.args.source.now.text.now start events c.args.rule c.args.out.now.items (c.in_default.ensures start events are)

pub returns-in_default-line_in : goal.returns-in_default-line_in
returns-in_default-line_in c = λ start events look is are. absurd (there start events c.args.rule c.in-Some.own (c.in-Some.ensures start events are) (c.in_default-line_in.ensures start.program look.lines_are is.1 is.3))

pub returns : goal.returns
returns c =
    on_ok_weaker c.put_rule_line.result
    (λ added start events look is are.
    let found = c.in-Some-line_in.ensures start.program look.lines_are is.1 is.3 in
    rule_printed c.args.lookup.now.names c.args.source.now.text.now start events c.args.rule c.in-Some.own c.in-Some-line_in.number c.in-Some-line_in.line.now c.args.out.now.items c.put_rule_line.new.out.items
    (c.in-Some.ensures start events are) found.0 found.1 added) c.put_rule_line.ensures
