use Rattle.tw_symbols.proofs.TextNames.{ap, named_by, texts, ◌∙◌}
use Rattle.tw_symbols.proofs.expansion.names_in.Goals as goal

pub returns : goal.returns
returns c =
    let seen = c.in_ok-taken.ensures in
    (seen.0, seen.1, c.named_by.ensures ∙ ap named_by (ap texts c.deref.ensures.value ∙ seen.2))
