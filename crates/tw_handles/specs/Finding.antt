-- The place of a subscript in an output.
use Rattle.std.specs.Prelude.{◌≡◌, ◌⊎◌}
use Rattle.tw_handles.specs.Names.{ℕ, List, [], IsUtf8, Option, Some, None, slice_get, get, option_and_then, FinalView, Datum, subscripts_of}
use Rattle.std.specs.declared.cmp.Ordering.{Ordering}
use Rattle.std.specs.declared.cmp.Ordering.TheVariants.{Less}
use Rattle.tw_types.specs.ValueOrder.{Subscript, value_cmp}
use Rattle.tw_types.specs.declared.value.Value.TheVariants as value
use Rattle.tw_handles.specs.Asking.{Fails}
use Rattle.tw_handles.specs.Codes.{done, no_index, no_utf8}
use Rattle.tw_handles.specs.Reading.{WithOutputs}
use Rattle.tw_handles.specs.declared.held.Held.{Held}

-- compares a subscript with one that may be missing, which is greater
abbrev pub order_with : Subscript → Option Subscript → Ordering
order_with subscript None = Less
order_with subscript (Some other) = value_cmp subscript other

abbrev pub order_at : List Subscript → ℕ → Subscript → Ordering
order_at subscripts index subscript = order_with subscript (slice_get subscripts index)

-- holds for the index of this subscript
abbrev pub HasSubscript : List Subscript → Subscript → ℕ → Type 0
HasSubscript subscripts subscript index = slice_get subscripts index ≡ Some subscript

abbrev pub HasNone : List Subscript → Subscript → Type 0
HasNone subscripts subscript = (index : ℕ) → HasSubscript subscripts subscript index → ⊥

abbrev pub subscripts_if : Option Datum → List Subscript
subscripts_if None = []
subscripts_if (Some x) = subscripts_of x.content

-- returns the subscripts of an output, which has none if it is no live container or map
abbrev pub subscripts_at : FinalView → ℕ → List Subscript
subscripts_at final index = subscripts_if (option_and_then (λ id. get final.store.store.live id) (slice_get final.outputs index))

-- holds for the place of this subscript
abbrev pub IsThere : FinalView → ℕ → Subscript → ℕ → Type 0
IsThere final index subscript place = HasSubscript (subscripts_at final index) subscript place

abbrev pub IsNowhere : FinalView → ℕ → Subscript → Type 0
IsNowhere final index subscript = (place : ℕ) → IsThere final index subscript place → ⊥

-- holds if this is the place, or the output doesn't have this subscript
abbrev pub IsPlaceIn : FinalView → ℕ → Subscript → ℕ → ℕ → ℕ → Type 0
IsPlaceIn final index subscript old new code =
    (IsThere final index subscript new × (code ≡ done)) ⊎ (IsNowhere final index subscript × Fails no_index old new code)

abbrev pub IsPlace : Option Held → ℕ → Subscript → ℕ → ℕ → ℕ → Type 0
IsPlace held index subscript old new code = WithOutputs (λ final. IsPlaceIn final index subscript) held old new code

abbrev pub IsTextPlace : List ℕ → Option Held → ℕ → ℕ → ℕ → ℕ → Type 0
IsTextPlace bytes held index old new code =
    (IsUtf8 bytes × IsPlace held index (value.Text bytes) old new code) ⊎ ((IsUtf8 bytes → ⊥) × Fails no_utf8 old new code)
