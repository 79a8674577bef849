use Rattle.tw_lexer.specs.Seen.{seen}
use Rattle.tw_lexer.specs.Words.{IsBlank, IsBroken, IsFirstWord}
use Rattle.tw_lexer.proofs.Once.{blank_no_word}
use Rattle.tw_source.proofs.name_place.after_word.Goals as goal

pub returns-in-Found : goal.returns-in-Found
returns-in-Found c =
    let first : IsFirstWord (seen c.in-Found._word) c.args.bytes.now c.in-Found.after.now = rw c.in-Found.is at c.in_ok-_word.ensures in
    (seen c.in-Found._word, first)

pub returns-in-End : goal.returns-in-End
returns-in-End c = λ word rest is.
    let blank : IsBlank c.args.bytes.now = rw c.in-End.is at c.in_ok-_word.ensures in
    blank_no_word word c.args.bytes.now rest blank is

pub returns-in-Broken : goal.returns-in-Broken
returns-in-Broken c = λ word rest is.
    let broken : IsBroken c.args.bytes.now = rw c.in-Broken.is at c.in_ok-_word.ensures in
    broken.1 word rest is
