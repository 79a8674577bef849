use Rattle.tw_symbols.proofs.TextNames.{List, StartsWith, arith, seen, subst, sym, ℕ}
use Rattle.tw_symbols.proofs.Taking.{cut_word_at, rest_length}
use Rattle.tw_symbols.proofs.line.cut_word.Goals as goal

pub overflow_sub-count : goal.overflow_sub-count
overflow_sub-count c =
    let long = rest_length (seen c.args._word.now) c.args.bytes.now c.without_gap-here.result.now c.args.rest.now c.without_gap-here.ensures.after c.requires.first in
    omega (arith, long.1)

pub returns : goal.returns
returns c =
    let long = rest_length (seen c.args._word.now) c.args.bytes.now c.without_gap-here.result.now c.args.rest.now c.without_gap-here.ensures.after c.requires.first in
    subst (λ (text : List ℕ). StartsWith text c.args.bytes.now c.args.rest.now) (sym c.split_at.ensures.front)
    (cut_word_at (seen c.args._word.now) c.args.bytes.now c.without_gap-here.result.now c.args.rest.now _ c.without_gap-here.ensures.after c.requires.first (omega (arith, long.1)))
