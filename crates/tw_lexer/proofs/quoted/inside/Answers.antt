use Rattle.std.proofs.Common.{◌≡◌, ◌∙◌, drop, [], List, ℕ, ap, sym}
use Rattle.std.proofs.lemmas.List.{drop_all}
use Rattle.tw_lexer.specs.reading.Inside.{inside_from, with_front}
use Rattle.tw_lexer.proofs.quoted.inside.Goals as goal

pub returns : goal.returns
unfolding inside_from
returns c =
    let none : drop c.loop-byte.byte-index c.args.bytes.now ≡ [] = drop_all _ _ c.loop-byte-test.false in
    ap (λ (bytes : List ℕ). with_front c.loop-byte.text.items (inside_from c.loop-byte.escape bytes)) (sym none) ∙ c.loop-byte.invariant.is
