-- Reading a source: the accepted program, or the verdict with the position of its error.
use Rattle.std.specs.Prelude.{◌≡◌, ◌≢◌, ◌⊎◌, ℕ, List, Option, Some, None, Ok, Err}
use Rattle.tw_asm.specs.Origins.{instr_at}
use Rattle.tw_binary.specs.Reading.{program_of}
use Rattle.tw_binary.specs.declared.fault.Fault.{Fault}
use Rattle.tw_order.specs.declared.order.Source.TheVariants as from
use Rattle.tw_code.specs.accepting.WellTyped.{IsAccepted, IsFirstRejection}
use Rattle.tw_code.specs.declared.procedure.Procedure.{Procedure}
use Rattle.tw_code.specs.format.Program.{Versioned}
use Rattle.tw_source.specs.Program.{IsFailure, HasProgram, HasNoProgram}
use Rattle.tw_source.specs.declared.failure.ErrorCode.{ErrorCode}
use Rattle.tw_source.specs.declared.failure.Failure.{Failure}
use Rattle.tw_source.specs.declared.failure.Position.{Position}
use Rattle.tw_source.specs.declared.failure.Position.TheVariants as position
use Rattle.tw_source.specs.Text.{IsFromLine}
use Rattle.tw_source.specs.declared.program.NoProgram.{NoProgram}
use Rattle.tw_source.specs.declared.program.NoProgram.TheVariants.{Bytes}
use Rattle.tw_verify.specs.Rejection.{verify_error_code}
use Rattle.tw_verify.specs.Typed.{TypedProgram}
use Rattle.tw_verify.specs.declared.rejection.VerifyError.{VerifyError}
use Rattle.tw_verify.specs.declared.rejection.VerifyError.TheVariants as error
use Rattle.tw_verdict.specs.Verdict.{accepted, no_memory, rejection}
use Rattle.tw_verdict.specs.declared.format.Format.{Format}
use Rattle.tw_verdict.specs.declared.format.Format.TheVariants as format
use Rattle.tw_verdict.specs.declared.text.SourceVerdict.{SourceVerdict}
use Rattle.tw_verdict.specs.declared.verdict.Verdict.{Verdict}

-- ---- programs

-- the source encodes the program: by its bytes, or as `tw` reads hex text and assembly text
abbrev pub Encodes : Format → List ℕ → Versioned → Type 0
Encodes format.Bytes source program = program_of source ≡ Ok program
Encodes format.Hex source program = HasProgram from.Hex source program
Encodes format.Assembly source program = HasProgram from.Assembly source program

-- the program that the source encodes, and it is accepted
pub record HasSource (form : Format) (source : List ℕ) (verified : TypedProgram) : Type 0 where
  pub read : Versioned
  pub encodes : Encodes form source read
  pub program : verified.program ≡ read.procedures
  pub version : verified.version ≡ read.version
  pub accepted_is : IsAccepted verified.program

-- ---- positions

abbrev pub without_line : Verdict → SourceVerdict
without_line v = record { verdict = v; line = 0; word = 0; column = 0 }

-- a letter with its number, and no position in a program
abbrev pub letter : ℕ → ℕ → Verdict
letter which number = record { letter = which; number = number; engines = 0; workers = 0; procedure = 0; place = 0 }

-- ---- errors

-- returns an error in numbers: its code, and its position in the bytes or in the text
abbrev pub in_numbers : ErrorCode → Position → SourceVerdict
in_numbers code position.Nowhere = without_line (letter code.letter code.number)
in_numbers code (position.Byte offset) = without_line (record { letter = code.letter; number = code.number; engines = 0; workers = 0; procedure = 0; place = offset })
in_numbers code (position.Line line word column) = record { verdict = letter code.letter code.number; line = line; word = word; column = column }
in_numbers code (position.Place procedure place line) = without_line (record { letter = code.letter; number = code.number; engines = 0; workers = 0; procedure = procedure; place = place })
in_numbers code (position.Input input) = without_line (letter code.letter code.number)
in_numbers code (position.Event event) = without_line (letter code.letter code.number)

abbrev pub coded_numbers : Option ErrorCode → Position → SourceVerdict
coded_numbers None at = without_line no_memory
coded_numbers (Some code) at = in_numbers code at

abbrev pub failure_in_numbers : Failure → SourceVerdict
failure_in_numbers f = coded_numbers f.code f.position

-- holds for the verdict if the source encodes no program: the error in numbers
abbrev pub IsUnreadable : NoProgram → SourceVerdict → Type 0
IsUnreadable why v = (f : Failure) × IsFailure why f × (v ≡ failure_in_numbers f)

-- the source encodes no program, for this reason
abbrev pub EncodesNone : Format → List ℕ → NoProgram → Type 0
EncodesNone format.Bytes source why = (f : Fault) × (why ≡ Bytes f) × (program_of source ≡ Err f)
EncodesNone format.Hex source why = HasNoProgram from.Hex source why
EncodesNone format.Assembly source why = HasNoProgram from.Assembly source why

-- returns the text of a source, if it is assembly text
abbrev pub text_in : Format → List ℕ → Option (List ℕ)
text_in format.Bytes source = None
text_in format.Hex source = None
text_in format.Assembly source = Some source

-- the line of an assembly text from which the instruction at a place comes; 0 if there is no such instruction, or no such text
abbrev pub IsOrigin : Option (List ℕ) → List Procedure → ℕ → ℕ → ℕ → Type 0
IsOrigin None program procedure place line = line ≡ 0
IsOrigin (Some text) program procedure place line = ((instr_at program procedure place ≡ None) × (line ≡ 0)) ⊎ IsFromLine text procedure place line

abbrev pub rejection_at : ℕ → ℕ → ℕ → ℕ → SourceVerdict
rejection_at number procedure place line = record { verdict = rejection number procedure place; line = line; word = 0; column = 0 }

-- the verifier's error of a program that was read from this text, if from any, unless an allocation failed
abbrev pub IsErrorIn : Option (List ℕ) → List Procedure → VerifyError → ℕ → ℕ → SourceVerdict → Type 0
IsErrorIn text program which procedure place v =
    ((which ≢ error.NoMemory) × (line : ℕ) × IsOrigin text program procedure place line × (v ≡ rejection_at (verify_error_code which) procedure place line))
    ⊎ ((which ≡ error.NoMemory) × (v ≡ without_line no_memory))

-- the source encodes a program, and this is its first error
pub record IsRejected (form : Format) (source : List ℕ) (v : SourceVerdict) : Type 0 where
  pub read : Versioned
  pub encodes : Encodes form source read
  pub number : ℕ
  pub procedure : ℕ
  pub place : ℕ
  pub first : IsFirstRejection read.procedures number procedure place
  pub line : ℕ
  pub origin : IsOrigin (text_in form source) read.procedures procedure place line
  pub verdict_is : v ≡ rejection_at number procedure place line

-- the source encodes no program, and this is why
pub record HasNone (form : Format) (source : List ℕ) (v : SourceVerdict) : Type 0 where
  pub why : NoProgram
  pub none : EncodesNone form source why
  pub verdict_is : IsUnreadable why v

-- or an allocation failed
abbrev pub IsSourceError : Format → List ℕ → SourceVerdict → Type 0
IsSourceError form source v = IsRejected form source v ⊎ (HasNone form source v ⊎ (v ≡ without_line no_memory))

-- the program of the source is there just if it is accepted
abbrev pub IsSourceReading : Format → List ℕ → Option TypedProgram → SourceVerdict → Type 0
IsSourceReading form source (Some verified) v = HasSource form source verified × (v ≡ without_line (accepted verified.program))
IsSourceReading form source None v = IsSourceError form source v × (v.verdict.letter ≢ 0)
