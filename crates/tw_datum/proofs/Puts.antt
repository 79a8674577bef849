-- A map that passes a call's check takes the value.
use Rattle.std.proofs.Common.{◌≡◌, ◌&&◌, true, Some, None, ap, ◌∙◌}
use Rattle.std.proofs.lemmas.Bool.{and_parts}
use Rattle.std.specs.declared.option.Option.{Option}
use Rattle.std.specs.declared.result.Result.TheVariants.{Ok}
use Rattle.tw_types.specs.declared.cause.Cause.TheVariants.{WrongType}
use Rattle.tw_types.specs.declared.data_type.Scalar.{Scalar}
use Rattle.tw_types.specs.declared.data_type.Scalar.TheVariants as scalar
use Rattle.tw_types.specs.declared.value.Value.{Value}
use Rattle.tw_types.specs.DataType.{is_map_of, is_plain_map, is_sums}
use Rattle.tw_types.specs.Store.{Datum}
use Rattle.tw_types.specs.StoreChecks.{may_add, may_put}
use Rattle.tw_types.specs.Value.{scalar_of}
use Rattle.tw_types.specs.ValueOrder.{Subscript}
use Rattle.tw_types.proofs.Results.{must_then}
use Rattle.tw_datum.specs.Puts.{TakesValue}

pub put_takes : (subscript : Subscript) (value : Value) (o : Option Datum) → may_put subscript value o ≡ Ok tt → TakesValue subscript value o
put_takes subscript value None may = cc
put_takes subscript value (Some x) may = (and_parts (is_plain_map x.ty) _ (must_then (is_plain_map x.ty && is_map_of (scalar_of subscript) (scalar_of value) x.ty) WrongType _ tt may).0).1

pub add_takes : (subscript : Subscript) (value : Value) (o : Option Datum) → scalar_of value ≡ scalar.Int → may_add subscript o ≡ Ok tt → TakesValue subscript value o
add_takes subscript value None int may = cc
add_takes subscript value (Some x) int may =
    ap (λ (s : Scalar). is_map_of (scalar_of subscript) s x.ty) int ∙ (and_parts (is_sums x.ty) _ (must_then (is_sums x.ty && is_map_of (scalar_of subscript) scalar.Int x.ty) WrongType _ tt may).0).1
