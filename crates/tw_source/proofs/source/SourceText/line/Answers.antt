use Rattle.std.proofs.Common.{◌≡◌, ◌∙◌, ℕ, Some, subst, sym}
use Rattle.tw_source.specs.Source.{plain_of}
use Rattle.tw_source.specs.Text.{IsFromLine}
use Rattle.tw_source.proofs.Sources.{comes_from, from_line}
use Rattle.tw_source.proofs.source.SourceText.line.Goals as goal

pub returns : goal.returns
returns c = λ program origins is.
    let source = c.args.self.now in
    let number = c.in_ok-number.number in
    let comes = comes_from (plain_of source) program source.lines.procedures c.args.procedure c.args.place number origins (sym c.at.ensures ∙ c.in_ok-number.was) in
    subst (IsFromLine source.text.now c.args.procedure c.args.place) (sym c.written.ensures) (from_line source.text.now source.plain c.args.procedure c.args.place number is comes)
