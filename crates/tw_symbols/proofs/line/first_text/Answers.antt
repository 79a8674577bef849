use Rattle.tw_symbols.proofs.TextNames.{IsFirstWord, rest_utf8, seen}
use Rattle.tw_symbols.proofs.Taking.{shorter}
use Rattle.tw_symbols.proofs.line.first_text.Goals as goal

pub cut_word-requires-clause-first : goal.cut_word-requires-clause-first
cut_word-requires-clause-first c = rw c.in-Found.is at c.in_ok-next_word.ensures

pub returns-in-Found : goal.returns-in-Found
returns-in-Found c =
    let first : IsFirstWord (seen c.in-Found.word) c.args.bytes.now c.in-Found.rest.now = rw c.in-Found.is at c.in_ok-next_word.ensures in
    (c.cut_word.ensures, rest_utf8 (seen c.in-Found.word) c.args.bytes.now c.in-Found.rest.now first c.requires, shorter (seen c.in-Found.word) c.args.bytes.now c.in-Found.rest.now first)
