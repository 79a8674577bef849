-- The program that is read: hex text of its bytes, or assembly text, with names or without.
use Rattle.std.specs.Prelude.{◌≡◌, ◌⊎◌, ℕ, List, [], IfSome, IsUtf8, MatchOption, filter, length, Option, Some, None, Ok, Err, String, string_bytes}
use Rattle.std.specs.Result.{IsErr}
use Rattle.std.specs.Str.Lines.{lines}
use Rattle.std.specs.declared.alloc.Global.{Global}
use Rattle.hex.specs.Hex.{decode_of}
use Rattle.tw_asm.specs.Answers.{HasFault}
use Rattle.tw_asm.specs.Spelling.{EncodesProgram}
use Rattle.tw_binary.specs.Fault as fault
use Rattle.tw_code.specs.format.Program.{Versioned}
use Rattle.tw_binary.specs.Reading.{program_of}
use Rattle.tw_order.specs.declared.order.Source.{Source}
use Rattle.tw_order.specs.declared.order.Source.TheVariants.{Hex, Assembly}
use Rattle.tw_symbols.specs.Answers.{name_number}
use Rattle.tw_symbols.specs.Expansion.{ExpandsTo, HasNames}
use Rattle.tw_symbols.specs.Renamed.{IsRenamedUpTo, is_written}
use Rattle.tw_source.specs.Failure.{coded, failed_with, fault_failure}
use Rattle.tw_source.specs.Input.{digits_in}
use Rattle.tw_source.specs.NamePlace.{IsNamePlace}
use Rattle.tw_source.specs.Reply.{Reply, reply}
use Rattle.tw_source.specs.Source.{plain_or, written}
use Rattle.tw_source.specs.Text.{RepliesByUtf8}
use Rattle.tw_source.specs.declared.close.Close.TheVariants.{Success}
use Rattle.tw_source.specs.declared.faulty_text.FaultyText.{FaultyText}
use Rattle.tw_source.specs.declared.names.UnexpandedText.{UnexpandedText}
use Rattle.tw_source.specs.declared.program.NoProgram.{NoProgram}
use Rattle.tw_source.specs.declared.program.NoProgram.TheVariants.{NotHex, NotUtf8, Bytes, Text, Named, NoMemory}
use Rattle.tw_source.specs.declared.failure.Failure.{Failure}
use Rattle.tw_source.specs.declared.failure.Position.TheVariants as position
use Rattle.tw_visible.specs.Visible.{HidesNothing}

-- holds if the expanded text encodes the program
abbrev pub TextHasProgram : List ℕ → Versioned → Type 0
TextHasProgram text program = (plain : List ℕ) × ExpandsTo text plain × EncodesProgram program plain

-- holds for what is kept of a text: if it has names, a text of as many lines that aren't hidden
abbrev pub IsKept : List ℕ → Option (String Global) → Type 0
IsKept text found = MatchOption found (HasNames (lines text) → ⊥) (λ plain. HasNames (lines text) × (length (filter is_written (lines (string_bytes plain))) ≡ length (lines text)))

-- returns the text in which a fault is: the expanded text, which of a text without names is that itself
abbrev pub plain_in : FaultyText → List ℕ
plain_in f = plain_or f.text.now f.plain

-- hold for what is kept of a text that encodes no program: its expansion has this first fault, and is the text with its names replaced as far as it was read; or
-- a name error is reported
abbrev pub IsFaulty : List ℕ → FaultyText → Type 0
IsFaulty text f = (f.text.now ≡ text) × IsKept text f.plain × HasFault (plain_in f) f.fault.no f.fault.line f.fault.found
    × IfSome f.plain (λ plain. IsRenamedUpTo f.fault.found text (string_bytes plain))

abbrev pub IsUnexpanded : List ℕ → UnexpandedText → Type 0
IsUnexpanded text f = f.text.now ≡ text

-- holds if the input encodes the program
abbrev pub HasProgram : Source → List ℕ → Versioned → Type 0
HasProgram Hex input program = (bytes : List ℕ) × (decode_of (digits_in input) ≡ Ok bytes) × (program_of bytes ≡ Ok program)
HasProgram Assembly input program = IsUtf8 input × TextHasProgram input program

-- holds if it encodes none, for this reason
abbrev pub HasNoProgram : Source → List ℕ → NoProgram → Type 0
HasNoProgram Hex input NotHex = IsErr (decode_of (digits_in input))
HasNoProgram Hex input (Bytes f) = (bytes : List ℕ) × (decode_of (digits_in input) ≡ Ok bytes) × (program_of bytes ≡ Err f)
HasNoProgram Hex input NotUtf8 = ⊥
HasNoProgram Hex input (Text f) = ⊥
HasNoProgram Hex input (Named f) = ⊥
HasNoProgram Hex input NoMemory = ⊥
HasNoProgram Assembly input NotHex = ⊥
HasNoProgram Assembly input (Bytes f) = ⊥
HasNoProgram Assembly input NotUtf8 = IsUtf8 input → ⊥
HasNoProgram Assembly input (Text f) = IsUtf8 input × IsFaulty input f
HasNoProgram Assembly input (Named f) = IsUtf8 input × IsUnexpanded input f
HasNoProgram Assembly input NoMemory = ⊥

-- holds for the error, with a line of a text and some word and column in it
abbrev pub IsFailure : NoProgram → Failure → Type 0
IsFailure NotHex failure = failure ≡ coded 72 1 position.Nowhere
IsFailure NotUtf8 failure = failure ≡ coded 72 3 position.Nowhere
IsFailure (Bytes f) failure = failure ≡ coded 70 (fault.fault_number f.no) (position.Byte f.offset)
IsFailure (Text f) failure = (at : ℕ × ℕ) × (failure ≡ fault_failure f.fault.no (written f.plain f.fault.line) at)
IsFailure (Named f) failure =
    (at : ℕ × ℕ) × IsNamePlace f.text.now f.error.line f.error.word.now at × (failure ≡ coded 78 (name_number f.error.no) (position.Line f.error.line at.0 at.1))
IsFailure NoMemory failure = ⊥

-- holds for what may follow its first line: anything about a rejected text that hides nothing
abbrev pub MayHaveDetails : NoProgram → List ℕ → Type 0
MayHaveDetails (Text f) more = HidesNothing more
MayHaveDetails (Named f) more = HidesNothing more
MayHaveDetails other more = more ≡ []

-- holds for the reply with the reason why there is no program
abbrev pub PrintsNone : NoProgram → Reply → Type 0
PrintsNone why r = (failure : Failure) × (more : List ℕ) × IsFailure why failure × MayHaveDetails why more × (r ≡ failed_with failure more)

-- holds if this is the reply to the program, or has the reason why there is none
abbrev pub RepliesBySource : Source → List ℕ → (Versioned → Reply → Type 0) → Reply → Type 0
RepliesBySource source input Answers r =
    ((program : Versioned) × HasProgram source input program × Answers program r) ⊎ ((why : NoProgram) × HasNoProgram source input why × PrintsNone why r)

-- holds for the text with its names replaced; or if this has a fault, as what is kept of it
abbrev pub IsPlain : List ℕ → List ℕ → Type 0
IsPlain text plain = ExpandsTo text plain ⊎ ((f : FaultyText) × IsFaulty text f × (plain ≡ plain_in f))

-- holds if the expanded text itself is printed, or why there is none
abbrev pub RepliesByPlain : List ℕ → Reply → Type 0
RepliesByPlain text r =
    RepliesByUtf8 text (((plain : List ℕ) × IsPlain text plain × (r ≡ reply plain Success)) ⊎ ((why : NoProgram) × HasNoProgram Assembly text why × PrintsNone why r)) r

-- returns the text as it is written, if the program was read from one
abbrev pub source_text : Source → List ℕ → Option (List ℕ)
source_text Hex input = None
source_text Assembly input = Some input
