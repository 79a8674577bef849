use Rattle.std.proofs.Common.{◌-◌, ap, ◌∙◌, slice_get}
use Rattle.std.specs.Str.Lines.{lines}
use Rattle.std.proofs.lemmas.Iterator.Consumers.{nth_from_yields_List}
use Rattle.std.proofs.lemmas.Iterator.Splits.{YieldsList-from_lines}
use Rattle.tw_lexer.proofs.LineLoops.{nth_line}
use Rattle.tw_lexer.proofs.lines.line_numbered.Goals as goal

pub returns : goal.returns
returns c =
    let found = nth_from_yields_List c.nth.result c.nth.new.self c.saturating_sub.result c.nth.ensures.ran (YieldsList-from_lines c.args.text.now c.lines.ensures.rest) in
    nth_line c.nth.result (slice_get (lines c.args.text.now) (c.args.number - 1)) (found ∙ ap (slice_get (lines c.args.text.now)) c.saturating_sub.ensures)
