-- The reply to a program and the lines of inputs after it.
use Rattle.std.specs.Prelude.{◌≡◌, ◌⊎◌}
use Rattle.tw_each.specs.Names.{ℕ, List, Option, Some, MatchOption, codes, is_some, IsUtf8, Versioned, TypedProgram, EachOrder, Source, IsJsonReply, coded, failed, cut_inputs, lines_in, RepliesBySource, HasProgram, source_text, Reply, reply}
use Rattle.tw_code.specs.declared.procedure.Procedure.{Procedure}
use Rattle.tw_order.specs.declared.form.Places.TheVariants.{Hidden}
use Rattle.tw_program_output.specs.Admission.{IsAdmitted, IsRejected}
use Rattle.tw_source.specs.declared.failure.Position.TheVariants as position
use Rattle.tw_source.specs.declared.close.Close.TheVariants.{CommandLine}
use Rattle.tw_each.specs.Answers.{AreAnswers, Way, too_long}
use Rattle.tw_each.specs.Worst.{close_of}
use Rattle.tw_each.specs.declared.worst.WorstEnd.{WorstEnd}

abbrev pub way_of : Option (List ℕ) → EachOrder → TypedProgram → Way
way_of text order verified = record { text = text; verified = verified; layout = order.layout; limit = order.limit; may_stop = is_some order.seconds }

-- holds for the answers of a program to these lines
abbrev pub IsAnswered : Option (List ℕ) → EachOrder → List Procedure → List (List ℕ) → Reply → Type 0
IsAnswered text order program given r =
    (verified : TypedProgram) × (worst : WorstEnd) × (verified.program ≡ program) × AreAnswers (way_of text order verified) 0 given r.text worst × (r.close ≡ close_of worst)

-- holds for a program that is read and admitted
abbrev pub IsRead : Source → EachOrder → List ℕ → Versioned → Type 0
IsRead source order input program = HasProgram source input program × IsAdmitted program.procedures (Some order.limit) order.caps

-- holds for the text that rejects what is read, or says why it is no program
abbrev pub IsRejectionText : Source → EachOrder → List ℕ → Reply → Type 0
IsRejectionText source order input error =
    RepliesBySource source input (λ program. IsRejected Hidden (source_text source input) program.procedures (Some order.limit) order.caps) error

-- holds for it as a JSON object
abbrev pub IsRejectionLine : Source → EachOrder → List ℕ → Reply → Type 0
IsRejectionLine source order input r = (error : Reply) × IsRejectionText source order input error × IsJsonReply error r

-- holds for the reply to a program and lines of inputs
abbrev pub RepliesByParts : Source → EachOrder → List ℕ → List (List ℕ) → Reply → Type 0
RepliesByParts source order input given r =
    ((program : Versioned) × IsRead source order input program × IsAnswered (source_text source input) order program.procedures given r) ⊎ IsRejectionLine source order input r

-- holds for the reply to a program and the lines after its line `inputs`; without that line the command line is rejected
abbrev pub RepliesInUtf8 : Source → EachOrder → List ℕ → Reply → Type 0
RepliesInUtf8 source order input r =
    MatchOption (cut_inputs (lines_in input)) (r ≡ reply (codes "command line refused\n") CommandLine) (λ cut. RepliesByParts source order cut.0 (lines_in cut.1) r)

-- holds for the reply to what is read
abbrev pub RepliesByEach : Source → EachOrder → List ℕ → Reply → Type 0
RepliesByEach source order input r =
    (IsUtf8 input × RepliesInUtf8 source order input r) ⊎ ((IsUtf8 input → ⊥) × IsJsonReply (failed (coded 72 3 position.Nowhere)) r)

-- holds for the reply to too many bytes
abbrev pub IsTooLongReply : Reply → Type 0
IsTooLongReply r = IsJsonReply (failed too_long) r
