-- Assembling: the bytes of an assembly text, or the expanded text of symbolic assembly.
use Rattle.std.specs.Prelude.{◌≡◌, ◌⊎◌, ◌++◌, ℕ, List, Option, codes}
use Rattle.hex.specs.Hex.{encode_lower}
use Rattle.tw_asm.specs.Answers.{HasFault}
use Rattle.tw_asm.specs.Spelling.{EncodesProgram}
use Rattle.tw_code.specs.format.Program.{Versioned}
use Rattle.tw_binary.specs.Spelling.{encoding}
use Rattle.tw_order.specs.declared.form.Assembling.{Assembling}
use Rattle.tw_order.specs.declared.form.Assembling.TheVariants as assembling
use Rattle.tw_order.specs.declared.order.Source.TheVariants.{Assembly}
use Rattle.tw_asm.specs.declared.fault.FaultNo.{FaultNo}
use Rattle.tw_source.specs.Failure.{failed, fault_failure}
use Rattle.tw_source.specs.Reply.{Reply, reply}
use Rattle.tw_source.specs.Text.{RepliesByUtf8}
use Rattle.tw_source.specs.declared.close.Close.TheVariants.{Success}
use Rattle.tw_source.specs.Program.{RepliesByPlain, RepliesBySource}

-- holds for the line of a fault, with some word and column in it
abbrev pub IsFaultReply : FaultNo → ℕ → Reply → Type 0
IsFaultReply which line r = (at : ℕ × ℕ) × (r ≡ failed (fault_failure which line at))

-- like `RepliesBySource`, for an assembly text whose bytes are requested: it has no names, and an error prints only its line
abbrev pub RepliesByText : List ℕ → (Versioned → Reply → Type 0) → Reply → Type 0
RepliesByText input Answers r =
    RepliesByUtf8 input (((program : Versioned) × EncodesProgram program input × Answers program r)
    ⊎ ((which : FaultNo) × (line : ℕ) × (found : Option ℕ) × HasFault input which line found × IsFaultReply which line r)) r

-- holds for a program's bytes, in hex digits
abbrev pub IsWritten : Versioned → Reply → Type 0
IsWritten program r = r ≡ reply (encode_lower (encoding program) ++ codes "\n") Success

-- holds for what is assembled: the bytes of an assembly text, or of one that may be symbolic, or the expanded text of such a text
abbrev pub RepliesByAssembling : Assembling → List ℕ → Reply → Type 0
RepliesByAssembling assembling.Text input r = RepliesByText input IsWritten r
RepliesByAssembling assembling.Names input r = RepliesBySource Assembly input IsWritten r
RepliesByAssembling assembling.Plain input r = RepliesByPlain input r
