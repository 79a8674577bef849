use Rattle.tw_symbols.proofs.TextNames.{ap, filter, is_unnamed, length, length-map, now, seen_names, subst, sym, texts, with_hidden, ℕ, ◌++◌, ◌+◌, ◌∙◌, ◌≡◌}
use Rattle.tw_symbols.proofs.WordByWord.{Words, counted_words}
use Rattle.tw_symbols.specs.Renamed.{AreHidden}
use Rattle.tw_symbols.proofs.renamed_line.are_registers.Goals as goal

pub returns-then-listed : goal.returns-then-listed
returns-then-listed c = λ is.
    let types = texts c.args.names.now.types.items in
    let listed = filter is_unnamed (texts c.args.words.now) in
    let more = c.in-Some.more.now in
    let names = seen_names c.add_registers.new.names in
    let parts : texts c.args.plains.now ≡ types ++ (listed ++ texts more) = c.in-Some.ensures ∙ ap (λ (ts : Words). texts ts ++ (listed ++ texts more)) c.deref.ensures.value in (
      names,
      texts more,
      c.in_ok-listed.ensures c.if-listed.true,
      parts,
      subst (λ (n : ℕ). AreHidden n (texts more)) (sym (length-map c.args.plains.now now)) (c.are_hidden.ensures is),
      c.in_ok-list_hidden.ensures ∙ ap (λ (n : ℕ). with_hidden names n (texts more)) (counted_words c.args.plains.now more types listed parts),
    )
