-- Replies with the reason why there is no program.
use Rattle.std.proofs.Common.{◌≡◌, ◌≢◌, ℕ, List, [], inr, refl}
use Rattle.tw_source.proofs.ReplyNames.{MayHaveDetails, NoProgram, RepliesBySource, HasNoProgram, Spoken as Reply, Versioned}
use Rattle.tw_order.specs.declared.order.Source.{Source}
use Rattle.tw_source.specs.Program.{PrintsNone}
use Rattle.tw_source.specs.declared.faulty_text.FaultyText.{FaultyText}
use Rattle.tw_source.specs.declared.names.UnexpandedText.{UnexpandedText}
use Rattle.tw_source.specs.declared.program.NoProgram.TheVariants.{NotHex, NotUtf8, Bytes, Text, Named, NoMemory}

-- nothing follows the line of an error that isn't a text's
pub no_details : (why : NoProgram) → ((f : FaultyText) → why ≡ Text f → ⊥) → ((f : UnexpandedText) → why ≡ Named f → ⊥) → MayHaveDetails why []
no_details NotHex text named = refl
no_details NotUtf8 text named = refl
no_details (Bytes f) text named = refl
no_details (Text f) text named = absurd (text f refl)
no_details (Named f) text named = absurd (named f refl)
no_details NoMemory text named = refl

-- the reply to what is no program is one to what is read
pub none_printed : (source : Source) (input : List ℕ) (why : NoProgram) (Answers : Versioned → Reply → Type 0) (r : Reply) → (why ≢ NoMemory → HasNoProgram source input why)
    → (why ≢ NoMemory) × PrintsNone why r → RepliesBySource source input Answers r
none_printed source input why Answers r none (other, printed) = inr (why, none other, printed)
