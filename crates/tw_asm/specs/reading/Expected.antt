-- First words, and the statements that they begin.
use Rattle.std.specs.Prelude.{ℕ, Bool, true, List, [], ◌∷◌}
use Rattle.tw_code.specs.declared.version.Version.{Version}
use Rattle.tw_lexer.specs.Words.{Word, Bare, Quoted, is_comment_sign}
use Rattle.tw_asm.specs.declared.statement.First.{First}
use Rattle.tw_asm.specs.declared.statement.First.TheVariants as first
use Rattle.tw_asm.specs.Statement.{Statement, OfVersion, Head, Registers, Label, Code, IsExpected}

abbrev pub IsExpectedBy : Version → Word → First → Type 0
IsExpectedBy version (Bare word) expected = IsExpected version expected word
IsExpectedBy version (Quoted text) expected = ⊥

-- returns the kind of a statement, which its first word shows
abbrev pub expectation : Statement → First
expectation (OfVersion number) = first.Version
expectation (Head kind params) = first.Head
expectation (Registers registers) = first.Registers
expectation (Label name) = first.Body
expectation (Code i) = first.Body

-- whether the first byte says that a line has no word: it is empty, or a comment
abbrev pub is_plainly_blank : List ℕ → Bool
is_plainly_blank [] = true
is_plainly_blank (b ∷ line) = is_comment_sign b
