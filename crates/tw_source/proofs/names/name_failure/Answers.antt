use Rattle.std.proofs.Common.{◌∙◌, ℕ, ap}
use Rattle.tw_source.proofs.ReplyNames.{coded}
use Rattle.tw_source.specs.declared.failure.Position.TheVariants as position
use Rattle.tw_source.proofs.names.name_failure.Goals as goal

pub returns : goal.returns
returns c =
    let word = c.in_ok-word.word in
    let column = c.in_ok-word.column in (
      (word, column),
      c.in_ok-word.ensures,
      c.coded.ensures ∙ ap (λ (n : ℕ). coded 78 n (position.Line c.args.unexpanded.now.error.line word column)) c.number.ensures,
    )
