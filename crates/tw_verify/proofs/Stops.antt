-- The place where a pass stops.
use Rattle.std.proofs.Common.{◌≡◌, ℕ, ◌+◌, inl, inr, List, [], ◌∷◌, ◌++◌, None, refl}
use Rattle.tw_verify.proofs.VerifierNames.{AreUpTo, IsReached, IsWellTyped, Procedure, Typing}
use Rattle.tw_verify.proofs.Mistakes.{early_outcome}
use Rattle.tw_verify.proofs.Reaching.{IsRow}

-- nothing leads to the place
pub up_to_unreached : (program : List Procedure) (p : Procedure) (typings : List Typing) (place : ℕ) → IsWellTyped program p typings place → IsRow program p typings (place + place) place None → AreUpTo program p place typings
up_to_unreached program p typings place w (some, none) = record {
  before = typings;
  well_typed = w;
  last = inl (record { is = refl; later = some; never = λ before step. none before step (early_outcome before place step.way step.earlier) }, refl);
}

-- the place is reached
pub up_to_reached : (program : List Procedure) (p : Procedure) (before typings : List Typing) (place : ℕ) (typing : Typing) → IsWellTyped program p before place → IsReached program p before place typing → typings ≡ before ++ typing ∷ []
    → AreUpTo program p place typings
up_to_reached program p before typings place typing w reached is = record { before = before; well_typed = w; last = inr (typing, reached, is) }
