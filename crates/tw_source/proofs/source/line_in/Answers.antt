use Rattle.std.proofs.Common.{◌∙◌, sym}
use Rattle.tw_source.specs.Source.{plain_of}
use Rattle.tw_source.proofs.Sources.{comes_from}
use Rattle.tw_source.proofs.Tables.{found_in}
use Rattle.tw_source.proofs.source.line_in.Goals as goal

pub returns : goal.returns
returns c = λ program table origins is.
    let source = c.args.source.now in
    let number = c.in_ok-number.number in
    let comes = comes_from (plain_of source) program source.lines.procedures c.args.procedure c.args.place number origins (sym c.at.ensures ∙ c.in_ok-number.was) in
    found_in c.args.table.now source.text.now source.plain program c.args.procedure c.args.place number table is comes c.written.result c.written.ensures
