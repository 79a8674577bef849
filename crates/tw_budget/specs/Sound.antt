-- Properties of a procedure's flows that follow from its limits and its structure.
use Rattle.std.specs.Prelude.{◌≡◌, ℕ, ◌<◌, List, length, Some, None, slice_get}
use Rattle.tw_code.specs.declared.flow.Flow.{Flow}
use Rattle.tw_code.specs.declared.flow.Flow.TheVariants.{Begin}
use Rattle.tw_code.specs.accepting.Structure.{structure_rejection_at}

pub record IsSound (code : List Flow) : Type 0 where
  pub long : 0 < length code
  pub iterations : (place iterations : ℕ) → slice_get code place ≡ Some (Begin iterations) → 0 < iterations
  pub each : (place : ℕ) → structure_rejection_at code place ≡ None
