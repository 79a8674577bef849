-- The reply to a program that the verifier rejects.
use Rattle.std.specs.Prelude.{◌≡◌, ℕ, List, [], Option}
use Rattle.tw_code.specs.declared.procedure.Procedure.{Procedure}
use Rattle.tw_code.specs.accepting.WellTyped.{IsFirstRejection}
use Rattle.tw_order.specs.declared.form.Places.{Places}
use Rattle.tw_order.specs.declared.form.Places.TheVariants.{Hidden, Shown}
use Rattle.tw_source.specs.Failure.{coded, failed_after}
use Rattle.tw_source.specs.declared.failure.Failure.{Failure}
use Rattle.tw_source.specs.declared.failure.Position.TheVariants as position
use Rattle.tw_source.specs.Reply.{Reply}
use Rattle.tw_source.specs.Text.{IsRejectionLine}
use Rattle.tw_verify.specs.Rejection.{verify_error_code}
use Rattle.tw_verify.specs.declared.rejection.VerifyError.{VerifyError}
use Rattle.tw_visible.specs.Visible.{HidesNothing}

-- holds for what may precede an error: any listing that hides nothing, if one is requested
abbrev pub MayBeBefore : Places → List ℕ → Type 0
MayBeBefore Hidden before = before ≡ []
MayBeBefore Shown before = HidesNothing before

-- returns the error of the verifier at a place, with its line
abbrev pub rejection : VerifyError → ℕ → ℕ → Option ℕ → Failure
rejection which procedure place line = coded 86 (verify_error_code which) (position.Place procedure place line)

-- holds for the reply to the first error, with what precedes and follows its line; that hides nothing
abbrev pub RepliesByRejection : Places → Option (List ℕ) → List Procedure → Reply → Type 0
RepliesByRejection places text program r =
    (which : VerifyError) × (procedure : ℕ) × (place : ℕ) × (line : Option ℕ) × (before : List ℕ) × (more : List ℕ) × IsFirstRejection program (verify_error_code which) procedure place
    × IsRejectionLine text which procedure place line × MayBeBefore places before × HidesNothing more × (r ≡ failed_after before (rejection which procedure place line) more)
