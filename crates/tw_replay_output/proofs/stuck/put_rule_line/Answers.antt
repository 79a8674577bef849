use Rattle.std.proofs.Common.{◌++◌, ◌∙◌, List, ap, append_assoc, ℕ}
use Rattle.tw_symbols.specs.Symbols.{name_at}
use Rattle.tw_replay_output.proofs.ReplayNames.{on_ok_weaker, rule_text, text_line}
use Rattle.tw_replay_output.proofs.stuck.put_rule_line.Goals as goal

pub returns : goal.returns
returns c =
    let front = rule_text c.args.rule c.args.procedure (name_at c.args.names.now c.args.procedure) in
    let line = text_line c.args.number c.args.line.now in
    on_ok_weaker c.put_text_line.result (λ added. added ∙ ap (λ (t : List ℕ). t ++ line) c.in_ok-put_rule_text.ensures ∙ append_assoc c.args.out.now.items front line) c.put_text_line.ensures
