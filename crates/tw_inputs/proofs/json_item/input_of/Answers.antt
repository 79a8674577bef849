use Rattle.std.proofs.Common.{◌≡◌, ◌∙◌, Bool, true, Option, ap, map, subst, sym}
use Rattle.std.specs.Prelude.{MatchOption}
use Rattle.std.proofs.lemmas.Result.{IfOk-weaker}
use Rattle.json.specs.Json.{Json, array, number, object}
use Rattle.json.specs.Value.{items_of, members_view, value_view}
use Rattle.json.proofs.Trees.{view-Array, view-Object}
use Rattle.tw_types.specs.DataType.{is_map_by}
use Rattle.tw_types.specs.declared.data_type.Scalar.{Scalar}
use Rattle.tw_types.specs.declared.data_type.Scalar.TheVariants as scalar
use Rattle.tw_types.specs.declared.input.Input.{Input}
use Rattle.tw_inputs.specs.JsonInputs.{IsContainer, IsInput, IsListed}
use Rattle.tw_inputs.proofs.Listed.{list_read}
use Rattle.tw_inputs.proofs.Seen.{number_read, view_number}
use Rattle.tw_inputs.proofs.json_item.input_of.Goals as goal

abbrev Reads : (Input → Type 0) → Option Input → Type 0
Reads Is read = MatchOption read ((given : Input) → Is given → ⊥) Is

pub returns-in-Number : goal.returns-in-Number
returns-in-Number c =
    let is : value_view c.args.value.now ≡ number c.in-Number.digits.now = ap value_view c.in-Number.is ∙ view_number _ c.in-Number.digits in
    subst (λ (j : Json). Reads (IsInput c.args.ty j) c.input_of_number.result) (sym is) (number_read c.args.ty c.in-Number.digits.now c.input_of_number.result c.input_of_number.ensures)

pub returns-in-Object : goal.returns-in-Object
returns-in-Object c =
    let ty = c.args.ty in
    let ms = members_view c.in-Object.object.items in
    let is : value_view c.args.value.now ≡ object ms = ap value_view c.in-Object.is ∙ view-Object c.in-Object.object in
    IfOk-weaker _ _ _
    (λ read h.
    subst (λ (j : Json). Reads (IsInput ty j) read) (sym is)
    (subst (λ (b : Bool). Reads (IsContainer b ty.scalar ms) read) c.has_subscripts_by.ensures
    (subst (λ (s : Scalar). Reads (IsContainer c.has_subscripts_by.result s ms) read) c.scalar.ensures
    (subst (λ (l : _). Reads (IsContainer c.has_subscripts_by.result c.scalar.result (members_view l)) read) c.deref.ensures.value h)))) c.container_of.ensures

pub returns-in-Array : goal.returns-in-Array
returns-in-Array c =
    let ty = c.args.ty in
    let js = map value_view c.in-Array.items.items in
    let is : value_view c.args.value.now ≡ array (items_of js) = ap value_view c.in-Array.is ∙ view-Array c.in-Array.items in
    let by : is_map_by scalar.Int ty ≡ true = sym c.is_map_by.ensures ∙ c.if-is_map_by.true in
    IfOk-weaker _ _ _
    (λ read h.
    subst (λ (j : Json). Reads (IsInput ty j) read) (sym is)
    (list_read ty js read by
    (subst (λ (s : Scalar). Reads (IsListed s js) read) c.scalar-in-Array.ensures
    (subst (λ (l : _). Reads (IsListed c.scalar-in-Array.result (map value_view l)) read) c.deref-in-Array.ensures.value h)))) c.listed.ensures
