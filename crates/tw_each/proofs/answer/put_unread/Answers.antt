use Rattle.tw_each.proofs.Names.{List, None, ap, labelled, refl, string_bytes, ℕ, ◌++◌, ◌∙◌}
use Rattle.tw_each.proofs.answer.put_unread.Goals as goal

pub returns : goal.returns
returns c =
    let text = λ (l : List ℕ). c.args.out.now.items ++ labelled c.args.number None l in
    (refl, (string_bytes c.in_ok-line.line, c.in_ok-line.ensures, c.in_ok-put_labelled_line.ensures ∙ ap text c.as_bytes.ensures.value))
