use Rattle.std.proofs.Common.{◌≡◌, ◌≤◌, ℕ, List, length, take, drop, ap, sym, subst, ◌∙◌}
use Rattle.tw_lexer.specs.Words.{Bare, IsFirstWord}
use Rattle.tw_lexer.specs.reading.Next.{bare_length}
use Rattle.tw_lexer.proofs.FirstWords.{bare_first, bare_short}
use Rattle.tw_lexer.proofs.word.next_here.Goals as goal

pub split_at-requires : goal.split_at-requires
split_at-requires c = subst (λ (n : ℕ). n ≤ length c.args.bytes.now) (sym c.length_of_bare.ensures) (bare_short c.args.bytes.now)

pub returns-else-byte-eq34 : goal.returns-else-byte-eq34
returns-else-byte-eq34 c =
    let front : c.split_at.result.0.now ≡ take (bare_length c.args.bytes.now) c.args.bytes.now = c.split_at.ensures.front ∙ ap (λ (n : ℕ). take n c.args.bytes.now) c.length_of_bare.ensures in
    let back : c.split_at.result.1.now ≡ drop (bare_length c.args.bytes.now) c.args.bytes.now = c.split_at.ensures.back ∙ ap (λ (n : ℕ). drop n c.args.bytes.now) c.length_of_bare.ensures in
    let first = bare_first c.args.bytes.now c.in-len1-up.len_at_least c.requires.here c.if-byte-eq59.false c.if-byte-eq34.false in
    subst (λ (rest : List ℕ). IsFirstWord (Bare c.split_at.result.0.now) c.args.bytes.now rest) (sym back)
    (subst (λ (word : List ℕ). IsFirstWord (Bare word) c.args.bytes.now (drop (bare_length c.args.bytes.now) c.args.bytes.now)) (sym front) first)
