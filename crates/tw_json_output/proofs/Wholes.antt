-- Written values have no float.
use Rattle.std.proofs.Common.{◌≡◌, ◌∙◌, false, List, [], ◌∷◌, ◌++◌, ap, refl, Result, IfOk}
use Rattle.std.specs.declared.alloc.AllocError.{AllocError}
use Rattle.serde_json.specs.Data as json
use Rattle.serde_json.specs.View.{items_view, view}
use Rattle.serde_json.specs.Written.{has_float, items_have_float}
use Rattle.serde_json.specs.declared.value.Value.{Value}
use Rattle.std.proofs.lemmas.Result.{IfOk-weaker}
use Rattle.tw_json_output.proofs.Floats.{both, first, second}

-- a value that may have been made has no float, if its data have none
pub whole_value : (value : Result Value AllocError) (d : json.Data) → has_float d ≡ false → IfOk value (λ v. view v ≡ d) → IfOk value (λ v. has_float (view v) ≡ false)
whole_value value d none is = IfOk-weaker value (λ (v : Value). view v ≡ d) (λ (v : Value). has_float (view v) ≡ false) (λ v e. ap has_float e ∙ none) is

pub one_item : (old : List Value) (v : Value) → items_have_float (items_view old) ≡ false → has_float (view v) ≡ false → items_have_float (items_view (old ++ v ∷ [])) ≡ false
one_item [] v none own = both _ _ own refl
one_item (x ∷ old) v none own = both _ _ (first _ _ none) (one_item old v (second _ _ none) own)
