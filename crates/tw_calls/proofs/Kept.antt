-- An answer whose text a handle holds.
use Rattle.std.proofs.Common.{ℕ, List, Option, inl, inr}
use Rattle.tw_source.specs.declared.close.Close.{Close}
use Rattle.tw_session.specs.declared.status.Status.TheVariants.{Ended}
use Rattle.tw_handles.specs.declared.held.Held.{Held}
use Rattle.tw_calls.specs.SessionAnswers.{Answers, IsAnswerKept, IsKeptWith, nul}

pub kept_answer : (words input : List ℕ) (close : Close) (text : List ℕ) (old new : Option Held) (code : ℕ) → Answers nul words input (Ended close) text → IsKeptWith close text old new code → IsAnswerKept words input old new code
kept_answer words input close text old new code answers (inl kept) = inl (close, text, answers, kept.0, kept.1)
kept_answer words input close text old new code answers (inr fails) = inr fails
