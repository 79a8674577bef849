use Rattle.tw_symbols.proofs.TextNames.{Worded, [], ap, sym, texts, ◌∙◌}
use Rattle.tw_symbols.proofs.BlankLines.{blank_taken}
use Rattle.tw_symbols.proofs.line.take_line.Goals as goal

pub returns-then-is_plainly_blank : goal.returns-then-is_plainly_blank
returns-then-is_plainly_blank c =
    (Worded [] c.args.line.now, blank_taken c.args.line.now (sym c.is_plainly_blank.ensures ∙ c.if-is_plainly_blank.true), ap texts c.new.ensures.items)
