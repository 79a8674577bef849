use Rattle.std.proofs.Common.{◌++◌, ◌∙◌, ℕ, List, ap, refl}
use Rattle.tw_symbols.specs.Symbols.{name_at}
use Rattle.tw_source.specs.Text.{line_in_text}
use Rattle.tw_source.proofs.ReplyNames.{on_ok_weaker}
use Rattle.tw_source.proofs.source.put_source_line.Goals as goal

pub returns-in_default : goal.returns-in_default
returns-in_default c = λ program is. absurd (is.1 (c.in_default.ensures program is.0 is.2))

pub returns : goal.returns
returns c = λ program.
    on_ok_weaker c.put_line_in.result
    (λ put is.
    let source = c.args.source.now in
    let number = c.in-Some.number in
    let line = c.in-Some.line.now in
    let names = c.in_ok-names.names in
    let found = c.in-Some.ensures program is.0 is.2 in (
      line_in_text (name_at names c.args.procedure) number line,
      (number, line, names, found.0, found.1, c.in_ok-names.ensures, refl),
      put ∙ ap (λ (name : List ℕ). c.args.out.now.items ++ line_in_text name number line) c.procedure.ensures,
    )) c.put_line_in.ensures
