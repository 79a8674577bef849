use Rattle.std.proofs.Common.{◌≤◌, length, subst, sym}
use Rattle.tw_report.proofs.LineWords.{length_short, word_cut}
use Rattle.tw_report.proofs.words.first_word.Goals as goal

pub split_at-requires : goal.split_at-requires
split_at-requires c = subst (λ n. n ≤ length c.without_gap-rest.result.now) (sym c.word_length.ensures) (length_short c.without_gap-rest.result.now)

pub returns : goal.returns
returns c =
    word_cut c.args.line.now c.without_gap-rest.result.now c.split_at.result.0.now c.split_at.result.1.now c.word_length.result c.without_gap-rest.ensures.words c.without_gap-rest.ensures.here c.word_length.ensures
    c.split_at.ensures.front c.split_at.ensures.back
