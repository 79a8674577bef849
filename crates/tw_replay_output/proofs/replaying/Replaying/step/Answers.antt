use Rattle.std.proofs.Common.{◌+◌, ◌++◌, ◌∙◌, Option, ap, arith}
use Rattle.tw_code.proofs.Growth.{below_more}
use Rattle.tw_replay_output.proofs.ReplayNames.{option_to_list, size_of}
use Rattle.tw_replay_output.specs.declared.replaying.Made.{Made}
use Rattle.tw_replay_output.proofs.Making.{replay_stepped}
use Rattle.tw_replay_output.proofs.replaying.Replaying.step.Goals as goal

pub returns-in-Ok-clause-noted : goal.returns-in-Ok-clause-noted
returns-in-Ok-clause-noted c =
    let old = c.args.self.now in
    let added = c.in-Ok.ensures ∙ ap (λ (o : Option Made). old.made.items ++ option_to_list o) c.rule_done-rule.ensures in
    replay_stepped c.args.event old (record { plain = c.step.new.self; made = c.keep.new.made }) c.step.result c.step.ensures.steps c.step.ensures.program c.step.ensures.layout added

pub returns-in-Err-clause-below : goal.returns-in-Err-clause-below
returns-in-Err-clause-below c = λ bound below. below_more bound (bound + size_of c.args.event) c.args.self.now.plain.state (omega arith) below
