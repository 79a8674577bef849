-- The words that encode a program's inputs, one word each.
use Rattle.std.specs.Prelude.{◌≡◌, ℕ, ℤ, List, [], ◌∷◌, ◌++◌, codes, length, suc}
use Rattle.tw_types.specs.declared.input.Input.{Input}
use Rattle.tw_types.specs.declared.input.Input.TheVariants as input
use Rattle.tw_lexer.specs.Number.{IsIn64, EncodesNumber}
use Rattle.tw_lexer.specs.Quoted.{EncodesQuoted}

-- ---- lists

-- holds if the text encodes the members after the first one, each with a comma before it
abbrev pub AreSeparated : {A : Type 0} → (A → List ℕ → Type 0) → List A → List ℕ → Type 0
AreSeparated Spells [] text = text ≡ []
AreSeparated Spells (x ∷ xs) text = (first : List ℕ) × (rest : List ℕ) × Spells x first × AreSeparated Spells xs rest × (text ≡ 44 ∷ (first ++ rest))

-- holds if the text encodes these members, with a comma between two of them; there may be none
abbrev pub AreJoined : {A : Type 0} → (A → List ℕ → Type 0) → List A → List ℕ → Type 0
AreJoined Spells [] text = text ≡ []
AreJoined Spells (x ∷ xs) text = (first : List ℕ) × (rest : List ℕ) × Spells x first × AreSeparated Spells xs rest × (text ≡ first ++ rest)

-- ---- one input

-- holds if the text encodes this number of 64 bits; no word encodes a larger one
abbrev pub EncodesInt : ℤ → List ℕ → Type 0
EncodesInt n text = EncodesNumber n text × IsIn64 n

-- holds if the text is a subscript, `=` and a value
abbrev pub EncodesMember : {S A : Type 0} → (S → List ℕ → Type 0) → (A → List ℕ → Type 0) → S × A → List ℕ → Type 0
EncodesMember SpellsSubscript Spells member text = (subscript : List ℕ) × (value : List ℕ) × SpellsSubscript member.0 subscript × Spells member.1 value × (text ≡ subscript ++ 61 ∷ value)

-- holds if the text encodes the members of a container
abbrev pub EncodesMembers : {S A : Type 0} → (S → List ℕ → Type 0) → (A → List ℕ → Type 0) → List (S × A) → List ℕ → Type 0
EncodesMembers SpellsSubscript Spells = AreJoined (EncodesMember SpellsSubscript Spells)

-- returns the head of the word
abbrev pub head_of : Input → List ℕ
head_of (input.Int n) = codes "int:"
head_of (input.Text text) = codes "text:"
head_of (input.Ints members) = codes "ints:"
head_of (input.Texts members) = codes "texts:"
head_of (input.IntsByText members) = codes "tints:"
head_of (input.TextsByText members) = codes "ttexts:"

-- holds if this follows the head: a number; a text as it is; or members, in which a text is between quotes. Whether subscripts rise, and how many
-- members or bytes there are, is checked when the program is opened.
abbrev pub EncodesRest : Input → List ℕ → Type 0
EncodesRest (input.Int n) rest = EncodesInt n rest
EncodesRest (input.Text text) rest = rest ≡ text
EncodesRest (input.Ints members) rest = EncodesMembers EncodesInt EncodesInt members rest
EncodesRest (input.Texts members) rest = EncodesMembers EncodesInt EncodesQuoted members rest
EncodesRest (input.IntsByText members) rest = EncodesMembers EncodesQuoted EncodesInt members rest
EncodesRest (input.TextsByText members) rest = EncodesMembers EncodesQuoted EncodesQuoted members rest

abbrev pub EncodesInput : Input → List ℕ → Type 0
EncodesInput given word = (rest : List ℕ) × (word ≡ head_of given ++ rest) × EncodesRest given rest

-- ---- all words

-- holds if each word encodes its input
abbrev pub AreEncoded : List Input → List (List ℕ) → Type 0
AreEncoded [] [] = Unit {0}
AreEncoded [] (word ∷ words) = ⊥
AreEncoded (given ∷ inputs) [] = ⊥
AreEncoded (given ∷ inputs) (word ∷ words) = EncodesInput given word × AreEncoded inputs words

-- a word that encodes no input: its number, counted from 1, and the line that says why
pub record RejectedWord : Type 0 where
  pub number : ℕ
  pub reason : List ℕ

abbrev pub refused_word : ℕ → List ℕ → RejectedWord
refused_word number reason = record { number = number; reason = reason }

-- holds if the word with this number is the first that encodes no input
abbrev pub IsRejectedWord : List (List ℕ) → RejectedWord → Type 0
IsRejectedWord words refused =
    (before : List (List ℕ)) × (inputs : List Input) × (word : List ℕ) × (later : List (List ℕ))
    × (words ≡ before ++ word ∷ later) × AreEncoded inputs before × ((given : Input) → EncodesInput given word → ⊥)
    × (refused.number ≡ suc (length before))

-- ---- theorems

abbrev pub OneInput : Type 0
OneInput = (word : List ℕ) (given other : Input) → EncodesInput given word → EncodesInput other word → given ≡ other

abbrev pub OneRejectedWord : Type 0
OneRejectedWord = (words : List (List ℕ)) (refused other : RejectedWord) → IsRejectedWord words refused → IsRejectedWord words other → refused.number ≡ other.number
