-- The content of an output by its subscripts: the members of a container, or the values of a map.
use Rattle.std.specs.Prelude.{◌≡◌}
use Rattle.tw_handles.specs.Names.{ℕ, List, [], map, Option, Some, None, MatchOption, slice_get, entries, get, option_and_then, option_copied, FinalView, Content, Unset, Set, Contains, Maps, Datum, Value}
use Rattle.tw_handles.specs.Reading.{item_of, value_item, value_of}
use Rattle.tw_handles.specs.declared.item.Item.{Item}
use Rattle.tw_handles.specs.declared.shown.Shown.{Shown}

-- a subscript, what is there as C reads it, and its value if it has one
pub record AtSubscript : Type 0 where
  pub subscript : Value
  pub item : Item
  pub value : Option Value

abbrev pub at_member : FinalView → Value × ℕ → AtSubscript
at_member final e = record { subscript = e.0; item = item_of (get final.store.store.live e.1); value = value_of (get final.store.store.live e.1) }

abbrev pub at_value : Value × Value → AtSubscript
at_value e = record { subscript = e.0; item = value_item e.1; value = Some e.1 }

-- returns what there is, in the order of the subscripts
abbrev pub shown_of : FinalView → Content → List AtSubscript
shown_of final Unset = []
shown_of final (Set x) = []
shown_of final (Contains members) = map (at_member final) (entries members)
shown_of final (Maps values) = map at_value (entries values)

abbrev pub shown_if : FinalView → Option Datum → List AtSubscript
shown_if final None = []
shown_if final (Some x) = shown_of final x.content

-- returns what an output has, which is nothing if it is no live container or map
abbrev pub shown_by : FinalView → ℕ → List AtSubscript
shown_by final index = shown_if final (option_and_then (λ id. get final.store.store.live id) (slice_get final.outputs index))

-- holds if this is it
abbrev pub IsShownAs : Option AtSubscript → Option Shown → Type 0
IsShownAs is shown = MatchOption shown (is ≡ None) (λ m. is ≡ Some (record { subscript = m.subscript.now; item = m.item; value = option_copied m.value }))
