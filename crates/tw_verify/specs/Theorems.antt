-- Theorems: a program is accepted or has one first error.
use Rattle.std.specs.Prelude.{◌≡◌, ℕ, List}
use Rattle.tw_code.specs.declared.procedure.Procedure.{Procedure}
use Rattle.tw_code.specs.accepting.WellTyped.{IsAccepted, IsFirstRejection}

-- there is only one code, one procedure and one place
abbrev pub OneFirstRejection : Type 0
OneFirstRejection = (program : List Procedure) (number other procedure second place later : ℕ)
    → IsFirstRejection program number procedure place → IsFirstRejection program other second later → (number ≡ other) × (procedure ≡ second) × (place ≡ later)

abbrev pub AcceptedUnrefused : Type 0
AcceptedUnrefused = (program : List Procedure) (number procedure place : ℕ) → IsAccepted program → IsFirstRejection program number procedure place → ⊥
