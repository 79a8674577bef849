-- Theorems: a text denotes one program, it has one first fault, and an instruction comes from one line.
use Rattle.std.specs.Prelude.{◌≡◌, ℕ, List, Option}
use Rattle.tw_code.specs.format.Program.{Versioned}
use Rattle.tw_asm.specs.declared.fault.FaultNo.{FaultNo}
use Rattle.tw_asm.specs.Fault.{IsFirstFault}
use Rattle.tw_asm.specs.Origins.{ComesFrom}
use Rattle.tw_asm.specs.Spelling.{EncodesProgram}

abbrev pub OneProgram : Type 0
OneProgram = (text : List ℕ) (p q : Versioned) → EncodesProgram p text → EncodesProgram q text → p ≡ q

-- says that a text has one fault number and one line, and that the fault is found at one
abbrev pub OneFirstFault : Type 0
OneFirstFault = (text : List ℕ) (which other : FaultNo) (line number : ℕ) (found last : Option ℕ) → IsFirstFault text which line found → IsFirstFault text other number last → (which ≡ other) × (line ≡ number) × (found ≡ last)

abbrev pub OneLine : Type 0
OneLine = (text : List ℕ) (procedure place number other : ℕ) → ComesFrom text procedure place number → ComesFrom text procedure place other → number ≡ other
