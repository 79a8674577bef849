-- The line of a rejected program.
use Rattle.std.proofs.Common.{◌≡◌, ◌∙◌, ℕ, Option, Some, None, refl, subst, sym}
use Rattle.tw_source.proofs.Sources.{expands, written_at}
use Rattle.tw_source.specs.Source.{IsExpanded, plain_of, written}
use Rattle.tw_source.specs.Text.{IsLineOfError, IsRejectionLine}
use Rattle.tw_source.specs.declared.source.SourceText.{SourceText}
use Rattle.tw_symbols.specs.Expansion.{IsWrittenAt}
use Rattle.tw_verify.specs.declared.rejection.VerifyError.{VerifyError}

pub none_there : (number : ℕ) → None ≡ Some number → ⊥
none_there number e = cc

pub written_rejection : (source : SourceText) (which : VerifyError) (procedure place own at : ℕ) → IsExpanded source.text.now source.plain
    → ((number : ℕ) × IsLineOfError which (plain_of source) procedure place number × (Some own ≡ Some number)) → at ≡ written source.plain own
    → IsRejectionLine (Some source.text.now) which procedure place (Some at)
written_rejection source which procedure place own at is (number, line, same) e =
    let number_is : own ≡ number = cc in (
      plain_of source,
      own,
      at,
      expands source.text.now source.plain is,
      subst (IsLineOfError which (plain_of source) procedure place) (sym number_is) line,
      subst (IsWrittenAt source.text.now (plain_of source) own) (sym e) (written_at source.text.now source.plain own is),
      refl,
    )
