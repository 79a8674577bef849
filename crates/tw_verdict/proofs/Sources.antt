-- Reading a source: the line of its error, and its verdict.
use Rattle.std.proofs.Common.{◌≡◌, ◌≢◌, ◌⊎◌, ◌∙◌, ℕ, nat_eq, true, false, List, Option, Some, None, MatchOption, inl, inr, refl, sym, ap}
use Rattle.tw_asm.specs.Origins.{instr_at}
use Rattle.tw_code.specs.declared.procedure.Procedure.{Procedure}
use Rattle.tw_code.specs.format.Program.{Versioned}
use Rattle.tw_source.specs.Text.{IsFromLine}
use Rattle.tw_source.specs.declared.program.NoProgram.{NoProgram}
use Rattle.tw_source.specs.declared.program.NoProgram.TheVariants.{NotHex, NotUtf8, Bytes, Text, Named, NoMemory}
use Rattle.tw_code.specs.accepting.WellTyped.{IsFirstRejection}
use Rattle.tw_verify.specs.Rejection.{verify_error_code}
use Rattle.tw_verify.specs.declared.rejection.VerifyError.{VerifyError}
use Rattle.tw_verify.specs.declared.rejection.VerifyError.TheVariants as error
use Rattle.tw_verdict.specs.Source.{Encodes, EncodesNone, IsErrorIn, IsOrigin, IsUnreadable, IsSourceReading, failure_in_numbers, text_in, without_line}
use Rattle.tw_verdict.specs.Verdict.{no_memory}
use Rattle.tw_verdict.specs.declared.format.Format.{Format}
use Rattle.tw_verdict.specs.declared.text.SourceVerdict.{SourceVerdict}

-- ---- lines

-- the line of an instruction, if a text has that
pub line_of : (text : List ℕ) (program : List Procedure) (procedure place : ℕ) (found : Option ℕ) → MatchOption found (instr_at program procedure place ≡ None) (IsFromLine text procedure place)
    → MatchOption found (IsOrigin (Some text) program procedure place 0) (IsOrigin (Some text) program procedure place)
line_of text program procedure place None none = inl (none, refl)
line_of text program procedure place (Some line) is = inr is

-- ---- verdicts

-- a letter other than 0
has_letter : (v : SourceVerdict) (n : ℕ) → nat_eq n 0 ≡ false → v.verdict.letter ≡ n → v.verdict.letter ≢ 0
has_letter v n other is zero =
    let same : nat_eq n 0 ≡ true = ap (λ (x : ℕ). nat_eq x 0) (sym is ∙ zero) in
    let clash : true ≡ false = sym same ∙ other in cc

letter_of : (why : NoProgram) (v : SourceVerdict) → IsUnreadable why v → v.verdict.letter ≢ 0
letter_of NotHex v (f, same, is) = has_letter v 72 refl (ap (λ (x : SourceVerdict). x.verdict.letter) (is ∙ ap failure_in_numbers same))
letter_of NotUtf8 v (f, same, is) = has_letter v 72 refl (ap (λ (x : SourceVerdict). x.verdict.letter) (is ∙ ap failure_in_numbers same))
letter_of (Bytes x) v (f, same, is) = has_letter v 70 refl (ap (λ (x : SourceVerdict). x.verdict.letter) (is ∙ ap failure_in_numbers same))
letter_of (Text x) v (f, (at, same), is) = has_letter v 65 refl (ap (λ (x : SourceVerdict). x.verdict.letter) (is ∙ ap failure_in_numbers same))
letter_of (Named x) v (f, (at, place, same), is) = has_letter v 78 refl (ap (λ (x : SourceVerdict). x.verdict.letter) (is ∙ ap failure_in_numbers same))
letter_of NoMemory v (f, same, is) = absurd same

pub unreadable : (form : Format) (input : List ℕ) (why : NoProgram) (v : SourceVerdict) → (why ≢ NoMemory → EncodesNone form input why) → IsUnreadable why v ⊎ (v ≡ without_line no_memory) → IsSourceReading form input None v
unreadable form input why v none (inr e) = (inr (inr e), has_letter v 77 refl (ap (λ (x : SourceVerdict). x.verdict.letter) e))
unreadable form input why v none (inl is) = (inr (inl (record { why = why; none = none (readable why is); verdict_is = is })), letter_of why v is)
  where
    readable : (w : NoProgram) → IsUnreadable w v → w ≢ NoMemory
    readable NotHex h = λ e. cc
    readable NotUtf8 h = λ e. cc
    readable (Bytes x) h = λ e. cc
    readable (Text x) h = λ e. cc
    readable (Named x) h = λ e. cc
    readable NoMemory h = absurd h.1

pub rejected : (form : Format) (input : List ℕ) (read : Versioned) (which : VerifyError) (procedure place : ℕ) (v : SourceVerdict) → Encodes form input read
    → (which ≢ error.NoMemory → IsFirstRejection read.procedures (verify_error_code which) procedure place) → IsErrorIn (text_in form input) read.procedures which procedure place v → IsSourceReading form input None v
rejected form input read which procedure place v encodes first (inl (some, line, origin, e)) =
    (inl (record { read = read; encodes = encodes; number = verify_error_code which; procedure = procedure; place = place; first = first some; line = line; origin = origin; verdict_is = e }), has_letter v 86 refl (ap (λ (x : SourceVerdict). x.verdict.letter) e))
rejected form input read which procedure place v encodes first (inr (is, e)) = (inr (inr e), has_letter v 77 refl (ap (λ (x : SourceVerdict). x.verdict.letter) e))
