-- The typings that are known of a program that isn't accepted.
use Rattle.std.specs.Prelude.{◌≡◌, ◌≢◌, ◌⊎◌, ℕ, ◌<◌, ◌≤◌, List, [], ◌∷◌, ◌++◌, length, IsSomeAnd, slice_get}
use Rattle.tw_code.specs.declared.procedure.Procedure.{Procedure}
use Rattle.tw_code.specs.accepting.Structure.{IsStructured, IsStructureRejection}
use Rattle.tw_code.specs.accepting.WellTyped.{IsReached, IsTypingRejection, IsUnreached, IsWellTyped}
use Rattle.tw_code.specs.machine.Rights.{Typing}

-- the typings of the places before this one, and the one with which the place itself is reached, unless nothing leads there
pub record AreUpTo (program : List Procedure) (p : Procedure) (place : ℕ) (typings : List Typing) : Type 0 where
  pub before : List Typing
  pub well_typed : IsWellTyped program p before place
  pub last : (IsUnreached p 9 place × (typings ≡ before)) ⊎ ((typing : Typing) × IsReached program p before place typing × (typings ≡ before ++ typing ∷ []))

-- holds for the known typings of a procedure: none if its structure has an error; those up to the place with an error of typing;
-- else those of all places
abbrev pub AreKnown : List Procedure → Procedure → List Typing → Type 0
AreKnown program p typings =
    ((number : ℕ) × (place : ℕ) × IsStructureRejection p.code number place × (typings ≡ []))
    ⊎ (IsStructured p.code × (((number : ℕ) × (place : ℕ) × IsTypingRejection program p number place × AreUpTo program p place typings) ⊎ IsWellTyped program p typings (length p.code)))

-- the typings found of one procedure of a program, which has the error of this code in the procedure `refused`
pub record AreFound (program : List Procedure) (number refused procedure : ℕ) (typings : List Typing) : Type 0 where
  -- none if main's shape is wrong, and none after the procedure with the error
  pub none : (number ≡ 16) ⊎ (refused < procedure) → typings ≡ []
  -- else those known of the procedure
  pub known : number ≢ 16 → procedure ≤ refused → IsSomeAnd (slice_get program procedure) (λ p. AreKnown program p typings)
