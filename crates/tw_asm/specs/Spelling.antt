-- Which texts denote a program. A program has many texts.
use Rattle.std.specs.Prelude.{◌≡◌, ◌≢◌, ℕ, ◌+◌, List, [], ◌∷◌, ◌++◌, map}
use Rattle.std.specs.List.{AllPairs, Contains}
use Rattle.std.specs.Str.Lines.{lines}
use Rattle.tw_code.specs.declared.instr.Instr.{Instr}
use Rattle.tw_code.specs.declared.procedure.Procedure.{Procedure}
use Rattle.tw_code.specs.declared.version.Version.{Version}
use Rattle.tw_code.specs.declared.version.Version.TheVariants.{One}
use Rattle.tw_code.specs.format.Program.{IsVersioned, Versioned}
use Rattle.tw_lexer.specs.Words.{Word, IsLine}
use Rattle.tw_asm.specs.Statement.{Code, Goals, Head, IsInLimits, Label, OfVersion, Registers, Encodes}
use Rattle.tw_code.specs.format.Versions.{version_number}

-- the words of each line that has any
pub data HaveWords : List (List ℕ) → List (List Word) → Type 0 where
  end : HaveWords [] []
  blank : (line : List ℕ) (others : List (List ℕ)) (words : List (List Word)) → IsLine [] line → HaveWords others words
      → HaveWords (line ∷ others) words
  one_more : (line : List ℕ) (others : List (List ℕ)) (word : Word) (after : List Word) (words : List (List Word))
      → IsLine (word ∷ after) line → HaveWords others words → HaveWords (line ∷ others) ((word ∷ after) ∷ words)

-- a label, with the place of the next instruction, or the length of the code if it is last
pub record Placed : Type 0 where
  pub name : List ℕ
  pub place : ℕ

-- Holds if this skip leads from the instruction at a place to the label: it is the number of instructions between them. So a label before
-- the instruction is no goal.
abbrev pub SkipsTo : List Placed → ℕ → Goals
SkipsTo labels place skip name = Contains labels (record { name = name; place = place + 1 + skip })

-- These lines denote the instructions from a place on, and these labels are among them. A goal may be any label of the procedure.
pub data AreCode (version : Version) (all : List Placed) : ℕ → List Placed → List Instr → List (List Word) → Type 0 where
  end : (place : ℕ) → AreCode version all place [] [] []
  label : (place : ℕ) (name : List ℕ) (words : List Word) (labels : List Placed) (code : List Instr) (others : List (List Word))
      → Encodes version (SkipsTo all place) (Label name) words → IsInLimits (Label name) → AreCode version all place labels code others
      → AreCode version all place (record { name = name; place = place } ∷ labels) code (words ∷ others)
  instruction : (place : ℕ) (i : Instr) (words : List Word) (labels : List Placed) (code : List Instr) (others : List (List Word))
      → Encodes version (SkipsTo all place) (Code i) words → AreCode version all (place + 1) labels code others
      → AreCode version all place labels (i ∷ code) (words ∷ others)

-- a head, the types of the value registers, and the code, in which each label occurs once
pub record EncodesProcedure (version : Version) (procedure : Procedure) (words : List (List Word)) : Type 0 where
  pub head : List Word
  pub registers : List Word
  pub body : List (List Word)
  pub labels : List Placed
  pub parts : words ≡ head ∷ registers ∷ body
  pub head_is : Encodes version (SkipsTo [] 0) (Head procedure.kind procedure.params) head
  pub registers_are : Encodes version (SkipsTo [] 0) (Registers procedure.registers) registers
  pub body_is : AreCode version labels 0 labels procedure.code body
  pub once : AllPairs (λ a b. a ≢ b) (map (λ label. label.name) labels)

-- one procedure after another
pub data EncodeProcedures (version : Version) : List Procedure → List (List Word) → Type 0 where
  end : EncodeProcedures version [] []
  one_more : (procedure : Procedure) (others : List Procedure) (first after : List (List Word))
      → EncodesProcedure version procedure first → EncodeProcedures version others after → EncodeProcedures version (procedure ∷ others) (first ++ after)

-- the line of the version, if there is one; without it the version is the first
pub data EncodesVersion : Version → List (List Word) → Type 0 where
  unsaid : EncodesVersion One []
  said : (version : Version) (words : List Word) → Encodes One (SkipsTo [] 0) (OfVersion (version_number version)) words → EncodesVersion version (words ∷ [])

pub record EncodesProgram (program : Versioned) (text : List ℕ) : Type 0 where
  pub front : List (List Word)
  pub words : List (List Word)
  pub lines_are : HaveWords (lines text) (front ++ words)
  pub version_is : EncodesVersion program.version front
  pub procedures_are : EncodeProcedures program.version program.procedures words
  pub is_program : IsVersioned program
