-- The model of what the code keeps of a text next to its program.
use Rattle.std.specs.Prelude.{◌≡◌, ℕ, List, Option, Some, None, IfSome, MatchOption, String, string_bytes}
use Rattle.std.specs.declared.alloc.Global.{Global}
use Rattle.std.specs.Str.Lines.{lines}
use Rattle.tw_symbols.specs.Expansion.{HasNames, written_line}
use Rattle.tw_symbols.specs.Renamed.{IsRenamed}
use Rattle.tw_code.specs.declared.procedure.Procedure.{Procedure}
use Rattle.tw_code.specs.declared.version.Version.{Version}
use Rattle.tw_code.specs.format.Program.{IsProgram}
use Rattle.tw_asm.specs.Origins.{AreOrigins, instr_at}
use Rattle.tw_asm.specs.Spelling.{EncodesProgram}
use Rattle.tw_source.specs.declared.source.SourceText.{SourceText}

-- returns the text as it is written, if there is one
abbrev pub text_of : Option SourceText → Option (List ℕ)
text_of None = None
text_of (Some source) = Some source.text.now

-- returns the expanded text if there is one, else the text itself
abbrev pub plain_or : List ℕ → Option (String Global) → List ℕ
plain_or text None = text
plain_or text (Some plain) = string_bytes plain

-- returns the expanded text of a source
abbrev pub plain_of : SourceText → List ℕ
plain_of source = plain_or source.text.now source.plain

-- returns the number of the written line from which the line of this number comes, in the expanded text if there is one
abbrev pub written : Option (String Global) → ℕ → ℕ
written None number = number
written (Some plain) number = written_line (string_bytes plain) number

-- holds if the expanded text is the text with its names and literals replaced; a text that has no names has none
abbrev pub IsExpanded : List ℕ → Option (String Global) → Type 0
IsExpanded text found = MatchOption found (HasNames (lines text) → ⊥) (λ plain. HasNames (lines text) × IsRenamed text (string_bytes plain))

-- holds if the text encodes a program of these procedures
abbrev pub IsTextOf : List ℕ → List Procedure → Type 0
IsTextOf text program = (version : Version) × EncodesProgram (record { version = version; procedures = program }) text

-- holds if the text and the lines are those of the program
abbrev pub IsSource : SourceText → List Procedure → Type 0
IsSource source program =
    IsProgram program × AreOrigins (plain_of source) program source.lines.procedures × IsTextOf (plain_of source) program × IsExpanded source.text.now source.plain

abbrev pub MayBeSource : Option SourceText → List Procedure → Type 0
MayBeSource source program = IfSome source (λ s. IsSource s program)

-- holds if they are, and the program has an instruction at the place
abbrev pub IsSourceAt : SourceText → List Procedure → ℕ → ℕ → Type 0
IsSourceAt source program procedure place =
    AreOrigins (plain_of source) program source.lines.procedures × (instr_at program procedure place ≡ None → ⊥) × IsExpanded source.text.now source.plain

abbrev pub MayBeSourceAt : Option SourceText → List Procedure → ℕ → ℕ → Type 0
MayBeSourceAt source program procedure place = IfSome source (λ s. IsSourceAt s program procedure place)
