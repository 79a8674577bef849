-- Errors as values, and their first lines.
use Rattle.std.specs.Prelude.{ℕ, ◌==◌, ◌+◌, ◌/◌, ◌%◌, if◌then◌else◌, List, [], ◌∷◌, ◌++◌, codes, decimal, Option, Some, None, length}
use Rattle.tw_asm.specs.Fault as asm
use Rattle.tw_asm.specs.declared.fault.FaultNo.{FaultNo}
use Rattle.tw_source.specs.declared.failure.ErrorCode.{ErrorCode}
use Rattle.tw_source.specs.declared.failure.Failure.{Failure}
use Rattle.tw_source.specs.declared.failure.Position.{Position}
use Rattle.tw_source.specs.declared.failure.Position.TheVariants as position
use Rattle.tw_source.specs.declared.close.Close.TheVariants.{Refused}
use Rattle.tw_source.specs.Reply.{Reply, reply}

-- ---- values

abbrev pub coded : ℕ → ℕ → Position → Failure
coded letter number at = record { code = Some (record { letter = letter; number = number }); position = at; before = 0 }

abbrev pub uncoded : Position → Failure
uncoded at = record { code = None; position = at; before = 0 }

-- returns the error of a fault in a line of an assembly text, at this word and column
abbrev pub fault_failure : FaultNo → ℕ → (ℕ × ℕ) → Failure
fault_failure which line at = coded 65 (asm.fault_number which) (position.Line line at.0 at.1)

-- ---- their first lines

-- returns a number below 100 in two digits
abbrev pub two_digits : ℕ → List ℕ
two_digits n = (48 + n / 10) ∷ (48 + n % 10) ∷ []

-- returns a code; those of traps, with the letter C, have as many digits as they need
abbrev pub code_text : ErrorCode → List ℕ
code_text code = if code.letter == 67 then codes "C" ++ decimal code.number else code.letter ∷ two_digits code.number

-- returns where an error is, if its first line says so; lines, inputs and events count from 1
abbrev pub position_text : Position → List ℕ
position_text position.Nowhere = []
position_text (position.Byte offset) = codes " at byte " ++ decimal offset
position_text (position.Line line word column) = codes " at line " ++ decimal line
position_text (position.Place procedure place line) = codes " in procedure " ++ (decimal procedure ++ (codes " at place " ++ decimal place))
position_text (position.Input input) = []
position_text (position.Event event) = codes " at event " ++ decimal event

abbrev pub coded_line : Option ErrorCode → Position → List ℕ
coded_line None at = []
coded_line (Some code) at = codes "refused " ++ (code_text code ++ (position_text at ++ codes "\n"))

-- returns the first line of an error that has a code
abbrev pub failure_line : Failure → List ℕ
failure_line f = coded_line f.code f.position

-- ---- replies

-- returns the reply with an error: its first line alone; or what more is said, too
abbrev pub failed : Failure → Reply
failed f = reply (failure_line f) (Refused f)

abbrev pub failed_with : Failure → List ℕ → Reply
failed_with f more = reply (failure_line f ++ more) (Refused f)

-- returns the error after so many bytes of a listing
abbrev pub after : ℕ → Failure → Failure
after before f = record { code = f.code; position = f.position; before = before }

abbrev pub failed_after : List ℕ → Failure → List ℕ → Reply
failed_after listing f more = reply (listing ++ (failure_line f ++ more)) (Refused (after (length listing) f))
