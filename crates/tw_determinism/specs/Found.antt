-- Contents of outputs, found by subscripts, so that ids don't show.
use Rattle.std.specs.Prelude.{◌≡◌, ℕ, Bool, true, if◌then◌else◌, List, [], ◌∷◌, Option, Some, slice_get}
use Rattle.std.specs.FinMap as fin
use Rattle.std.specs.Option.{option_and_then, option_map}
use Rattle.tw_types.specs.declared.value.Value.{Value}
use Rattle.tw_types.specs.DataType.{is_sums}
use Rattle.tw_types.specs.Nesting.{NestedScalar}
use Rattle.tw_types.specs.Store.{Content, Unset, Set, Contains, Maps, Datum, Store, Values, is_closed}
use Rattle.tw_types.specs.StoreCalls.{member_at}
use Rattle.tw_types.specs.ValueOrder.{Subscript}
use Rattle.tw_code.specs.machine.State.{State}

-- a datum's own content: an unset scalar, a value, a container's subscripts in their order, the values of a map, or its sums
pub data Shown : Type 0 where
  Nothing : Shown
  Single : Value → Shown
  Members : List Subscript → Shown
  Entries : Values → Shown
  Sums : Values → Shown

-- returns it, by the type
abbrev pub shown : NestedScalar → Content → Shown
shown ty Unset = Nothing
shown ty (Set x) = Single x
shown ty (Contains members) = Members (fin.keys members)
shown ty (Maps values) = if is_sums ty then Sums values else Entries values

-- the content, and whether the datum is closed
pub record Look : Type 0 where
  pub content : Shown
  pub closed : Bool

abbrev pub look_of : Datum → Look
look_of x = record { content = shown x.ty x.content; closed = is_closed x }

-- returns the datum to which the subscripts lead from this one, each within the one before
abbrev pub at_path : Store → List Subscript → ℕ → Option ℕ
at_path s [] id = Some id
at_path s (subscript ∷ path) id = option_and_then (at_path s path) (member_at s id subscript)

abbrev pub found : Store → List Subscript → ℕ → Option Look
found s path id = option_and_then (λ d. option_map look_of (fin.get s.live d)) (at_path s path id)

-- returns what is found in the k-th output; none if nothing is there
abbrev pub found_in : State → ℕ → List Subscript → Option Look
found_in s k path = option_and_then (found s.store path) (slice_get s.outputs k)

-- holds if the same is found in each output, wherever the subscripts lead
abbrev pub SameOutputs : State → State → Type 0
SameOutputs s t = (k : ℕ) (path : List Subscript) → found_in s k path ≡ found_in t k path

-- ---- a part of it

-- holds if the second has each value of the first, at its subscript
abbrev pub HasEach : Values → Values → Type 0
HasEach values others = (at : Subscript) (x : Value) → fin.get values at ≡ Some x → fin.get others at ≡ Some x

-- holds if the second has a sum at each subscript of the first: it may have grown
abbrev pub HasSumOfEach : Values → Values → Type 0
HasSumOfEach values others = (at : Subscript) (x : Value) → fin.get values at ≡ Some x → (y : Value) × (fin.get others at ≡ Some y)

-- holds if the first content may become the second: an unset scalar any, a value only itself, a map one with its values, or with its
-- subscripts if they are of sums. A container's members are compared by the paths that lead to them.
abbrev pub IsPartOf : Shown → Shown → Type 0
IsPartOf Nothing Nothing = Unit {0}
IsPartOf Nothing (Single x) = Unit {0}
IsPartOf (Single x) other = other ≡ Single x
IsPartOf (Members subscripts) (Members others) = Unit {0}
IsPartOf (Entries values) (Entries others) = HasEach values others
IsPartOf (Sums values) (Sums others) = HasSumOfEach values others
IsPartOf first second = ⊥

-- the second is found, too, with all of the first's content; if the first is closed, they are equal
pub record IsFoundAlso (first : Look) (second : Option Look) : Type 0 where
  pub other : Look
  pub there : second ≡ Some other
  pub part : IsPartOf first.content other.content
  pub whole : first.closed ≡ true → other ≡ first

-- holds if all that is found in the first state's outputs is found in the second's
abbrev pub ArePartOf : State → State → Type 0
ArePartOf s t = (k : ℕ) (path : List Subscript) (x : Look) → found_in s k path ≡ Some x → IsFoundAlso x (found_in t k path)
