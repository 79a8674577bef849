-- The results of calls, in terms of the definitions.
use Rattle.std.specs.Prelude.{◌≡◌, ◌==◌, ◌<◌, ◌+◌, ◌⊎◌, ℕ, Bool, true, false, List, [], ◌∷◌, ◌++◌, codes, Option, Some, None, ◌-◌, length, take, drop, IsUtf8}
use Rattle.tw_symbols.specs.Meanings.{Names, Procedures, lists, no_names}
use Rattle.std.specs.Str.{bytes_eq}
use denote.Ref.{Bor}
use Rattle.std.specs.Str.Iter.{lines_steps}
use Rattle.std.specs.Str.Lines.{lines}
use Rattle.std.specs.declared.str.Lines.{Lines as Iterators}
use Rattle.tw_lexer.specs.Words.{IsBlank, IsBroken}
use Rattle.tw_symbols.specs.Lines.{AreTaken, IsTaken, Line, StartsWith, line_words, pieces_after}
use Rattle.tw_symbols.specs.Renamed.{AreFilled, AreLines, AreRead, IsFilled, IsLine, is_written}
use Rattle.tw_symbols.specs.LineNames.{is_names_line}
use Rattle.tw_symbols.specs.Expansion.{HasNames}
use Rattle.tw_symbols.specs.declared.line.First as firsts
use Rattle.tw_symbols.specs.declared.line.First.TheVariants as first
use Rattle.tw_symbols.specs.declared.meaning.Bank.{Bank}
use Rattle.tw_symbols.specs.declared.meaning.Binding.{Binding}
use Rattle.tw_symbols.specs.declared.rejection.NameNo.{NameNo}
use Rattle.tw_symbols.specs.declared.rejection.NameNo.TheVariants as no

-- returns the number of N01 to N08
abbrev pub name_number : NameNo → ℕ
name_number no.Form = 1
name_number no.NoName = 2
name_number no.Twice = 3
name_number (no.Taken x) = 3
name_number no.Listed = 3
name_number (no.Hidden count) = 3
name_number (no.Unknown a) = 4
name_number no.Unlisted = 4
name_number (no.Kind x a) = 5
name_number no.Limit = 6
name_number (no.Spent count) = 6
name_number (no.Used count) = 6
name_number no.NoMemory = 7
name_number no.Internal = 8

-- returns whether an entry is a name by which this register was listed or made
abbrev pub lists_entry : Bank → ℕ → Option (List ℕ × Binding) → Bool
lists_entry in_bank number None = false
lists_entry in_bank number (Some entry) = lists in_bank number entry.1

-- returns the pieces of a word from an index on, if the piece around the index begins at `start`
unfoldable pub pieces_left : List ℕ → ℕ → ℕ → List (List ℕ)
pieces_left word start index = pieces_after (take (index - start) (drop start word)) (drop index word)

-- returns whether the first byte says that a line has no word: it is empty, or a comment
abbrev pub is_plainly_blank : List ℕ → Bool
is_plainly_blank [] = true
is_plainly_blank (b ∷ line) = b == 59

abbrev pub begins_with_p : List ℕ → Bool
begins_with_p [] = false
begins_with_p (b ∷ bytes) = b == 112

-- holds if the words begin with `=` and this one
abbrev pub IsAssigned : List (List ℕ) → List ℕ → Type 0
IsAssigned (sign ∷ word ∷ words) value = (bytes_eq sign (codes "=") ≡ true) × (word ≡ value)
IsAssigned words value = ⊥

-- ---- a text

-- returns whether a line has just `names`, if it has a word
abbrev pub named_by : List (List ℕ) → Option Bool
named_by [] = None
named_by (first ∷ words) = Some (is_names_line first words)

abbrev pub IsNamed : Bool → List ℕ → Type 0
IsNamed true text = HasNames (lines text)
IsNamed false text = HasNames (lines text) → ⊥

-- holds if the second text is the first with its names replaced, by these procedures; or only so many lines are
abbrev pub IsRenamedBy : Procedures → List ℕ → List ℕ → Option ℕ → Type 0
IsRenamedBy procedures text plain None = (all : List Line) × (after : Names) × AreTaken all (lines text) × AreLines procedures 1 no_names all (lines plain) after × AreFilled after × AreRead after
IsRenamedBy procedures text plain (Some count) =
    (before left : List (List ℕ)) × (all : List Line) × (after : Names) × (lines text ≡ before ++ left) × AreTaken all before × AreLines procedures 1 no_names all (take count (lines plain)) after

-- Holds if a line of an expanded text is as it has to be after so many written lines, whose names are known, and if these many are read after it, with
-- these names. The text's lines are left in the iterators.
abbrev pub IsBeside : Procedures → ℕ → Names → Iterators → List ℕ → ℕ → Names → Iterators → Type 0
IsBeside procedures count names before plain number after left = (taken : Line) × IsTaken taken plain
    × (((is_written plain ≡ false) × IsFilled names (line_words taken) after × (number ≡ count) × (left ≡ before))
    ⊎ ((is_written plain ≡ true) × AreFilled names × (number ≡ count + 1) × (found : Bor (List ℕ)) × (line : Line) × lines_steps before (Some found) left × IsTaken line found.now
    × IsLine procedures number names (line_words line) (line_words taken) after))

-- ---- a line

-- holds if this is the beginning of the bytes; the rest after a word is shorter, and in UTF-8
abbrev pub IsFirst : firsts.First → List ℕ → Type 0
IsFirst first.End bytes = IsBlank bytes
IsFirst first.Broken bytes = IsBroken bytes
IsFirst (first.Text word rest) bytes = StartsWith word.now bytes rest.now × IsUtf8 rest.now × (length rest.now < length bytes)
