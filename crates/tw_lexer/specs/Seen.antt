-- The code's words, as contracts see them.
use Rattle.std.specs.Prelude.{ℕ, Bool, true, false, List, string_bytes}
use Rattle.tw_lexer.specs.declared.word.Word as words
use Rattle.tw_lexer.specs.declared.word.Word.TheVariants as word
use Rattle.tw_lexer.specs.Words.{Word, Bare, Quoted, IsLine, IsBrokenLine}

-- returns a word, by its bytes
abbrev pub seen : words.Word → Word
seen (word.Bare bytes) = Bare bytes.now
seen (word.Quoted text) = Quoted (string_bytes text)

-- holds for the words of a line: all of them, or those before a broken one
abbrev pub IsRead : List Word → Bool → List ℕ → Type 0
IsRead words true line = IsLine words line
IsRead words false line = IsBrokenLine words line
