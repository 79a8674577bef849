-- A container is one deeper than its members.
use Rattle.std.proofs.Common.{◌≡◌, suc, List, [], ◌∷◌, Some, ap, arith, length}
use Rattle.std.proofs.lemmas.Option.{same_Some}
use Rattle.tw_types.specs.declared.data_type.Scalar.{Scalar}
use Rattle.tw_types.specs.Nesting.{NestedScalar}
use Rattle.tw_types.specs.DataType.{depth_of, element_of}

pub element_depth : (ty element : NestedScalar) → element_of ty ≡ Some element → depth_of ty ≡ suc (depth_of element)
element_depth ty element h = by ty.containers h
  where
    by : (containers : List Scalar) → element_of (record ty { containers = containers }) ≡ Some element → length containers ≡ suc (depth_of element)
    by [] h = cc
    by (own ∷ inner) h = let same = ap depth_of (same_Some (record ty { containers = inner }) element h) in omega arith
