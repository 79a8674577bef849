-- The members of an input container, and their data as they are added one after the other.
use Rattle.std.specs.Prelude.{Bool, ◌&&◌, List, [], fold}
use Rattle.std.specs.List.{list_all}
use Rattle.tw_types.specs.Nesting.{NestedScalar}
use Rattle.tw_types.specs.declared.value.Value.{Value}
use Rattle.tw_types.specs.Store.{Members, Datum, Contains, Store, added}
use Rattle.tw_types.specs.Value.{is_short}
use Rattle.tw_types.specs.ValueOrder.{Subscript}
use Rattle.tw_code.specs.machine.Opening.{closed_scalar}

-- returns whether no text of theirs has more than 4,096 bytes
abbrev pub are_short : List (Subscript × Value) → Bool
are_short es = list_all (λ e. is_short e.0 && is_short e.1) es

-- returns a closed container with one read
abbrev pub closed_container : NestedScalar → Members → Datum
closed_container ty members = record { ty = ty; content = Contains members; reads = 1; writes = 0; subscribers = [] }

-- adds each member as a closed scalar
abbrev pub with_members : Store → List (Subscript × Value) → Store
with_members s es = fold (λ t e. added t (closed_scalar e.1)) s es
