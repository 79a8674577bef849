use Rattle.std.proofs.Common.{◌∙◌, [], ◌∷◌, None, ap, map, string_bytes, sym, take}
use Rattle.std.proofs.lemmas.List.{map-append, take_more}
use Rattle.tw_files.proofs.Words.{one_more}
use Rattle.tw_files.specs.Naming.{Naming, after_word, naming}
use Rattle.tw_files.proofs.naming.naming_of.Goals as goal

pub loop-word-preserved : goal.loop-word-preserved
loop-word-preserved c =
    let words = c.args.words.now in
    let i = c.loop-word.word-index in
    let start = naming [] [] None None None in
    let item = c.word-item.result in
    let more = take_more words i item c.loop-word-test.true in
    rw (more, ← c.word-item.is, map-append string_bytes (take i words) (item ∷ [])) (c.in_ok-named.ensures ∙ ap (λ (n : Naming). after_word n (string_bytes item)) c.loop-word.invariant ∙ sym (one_more start (map string_bytes (take i words)) (string_bytes item)))
