use Rattle.tw_source.proofs.Sources.{line_there}
use Rattle.tw_source.proofs.source.source_line.Goals as goal

pub returns-in_err-line : goal.returns-in_err-line
returns-in_err-line c = λ program origins is.
    let from = rw c.in_ok-number.was at (c.line.ensures program origins is) in
    absurd (line_there c.args.source.now.text.now c.args.procedure c.args.place c.in_ok-number.number from (rw c.in_err-line.was at c.trimmed_line.ensures))

pub returns : goal.returns
returns c = λ program origins is.
    let from = rw c.in_ok-number.was at (c.line.ensures program origins is) in
    (from, c.in_ok-line.ensures)
