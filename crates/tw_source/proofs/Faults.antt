-- Faults of a text.
use Rattle.std.proofs.Common.{◌≡◌, ℕ, List, Option, inl, inr}
use Rattle.tw_asm.specs.Answers.{HasFault, IsFault}
use Rattle.tw_asm.specs.declared.fault.FaultNo.{FaultNo}
use Rattle.tw_asm.specs.declared.fault.FaultNo.TheVariants as asm

-- a fault that isn't out of memory is the first of a text that isn't assembled
pub fault_has : (text : List ℕ) (which : FaultNo) (line : ℕ) (found : Option ℕ) → (which ≡ asm.NoMemory → ⊥) → IsFault text which line found → HasFault text which line found
fault_has text which line found other (inl m) = absurd (other m.0)
fault_has text which line found other (inr h) = h
