use Rattle.tw_each.proofs.Names.{List, Option, ap, labelled, line_id, string_bytes, ℕ, ◌++◌, ◌∙◌}
use Rattle.tw_each.proofs.answer.put_answer.Goals as goal

pub returns : goal.returns
returns g c =
    let before = c.args.out.now.items in
    let line = string_bytes c.in_ok-answer.answer.line in
    let text_is = ap (λ (l : List ℕ). before ++ labelled c.args.number (line_id c.args.text.now) l) c.as_bytes.ensures.value in (
      line,
      c.in_ok-answer.ensures,
      c.in_ok-put_labelled_line.ensures ∙ ap (λ (id : Option (List ℕ)). before ++ labelled c.args.number id c.as_bytes.result.now) c.in_ok-id.ensures.id ∙ text_is,
    )
