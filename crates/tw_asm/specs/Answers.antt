-- The results of the public calls.
use Rattle.std.specs.Prelude.{◌≡◌, ◌⊎◌, ℕ, List, Option, Result, Ok, Err}
use Rattle.tw_code.specs.format.Program.{Versioned}
use Rattle.tw_asm.specs.declared.assembler.LinedProgram.{LinedProgram}
use Rattle.tw_asm.specs.declared.fault.AsmFault.{AsmFault}
use Rattle.tw_asm.specs.declared.fault.FaultNo.{FaultNo}
use Rattle.tw_asm.specs.declared.fault.FaultNo.TheVariants.{NoMemory}
use Rattle.tw_asm.specs.Fault.{IsFirstFault}
use Rattle.tw_asm.specs.Origins.{AreOrigins}
use Rattle.tw_asm.specs.Spelling.{EncodesProgram}

-- the first fault of a text that denotes no program
pub record HasFault (text : List ℕ) (no : FaultNo) (line : ℕ) (found : Option ℕ) : Type 0 where
  pub first : IsFirstFault text no line found
  pub none : (program : Versioned) → EncodesProgram program text → ⊥

-- holds for that, or if an allocation failed
abbrev pub IsFault : List ℕ → FaultNo → ℕ → Option ℕ → Type 0
IsFault text which line found = ((which ≡ NoMemory) × (line ≡ 0)) ⊎ HasFault text which line found

-- holds if the result is the program that the text denotes, or its first fault, or an allocation fails
abbrev pub IsAssembled : List ℕ → Result Versioned AsmFault → Type 0
IsAssembled text (Ok program) = EncodesProgram program text
IsAssembled text (Err f) = IsFault text f.no f.line f.found

-- like `IsAssembled`, and each instruction has its line
abbrev pub IsLined : List ℕ → Result LinedProgram AsmFault → Type 0
IsLined text (Ok lined) = EncodesProgram lined.program text × AreOrigins text lined.program.procedures lined.lines.procedures
IsLined text (Err f) = IsFault text f.no f.line f.found
