-- The model of a node of the search tree, and its balance.
use Rattle.std.specs.Prelude.{◌≡◌, ℕ, ◌+◌, ◌*◌, ◌≤◌, List, [], ◌∷◌, ◌++◌, length, Option, Some, None, Result, Ok, Err, T, Bool, true, false, IsSome}
use Rattle.std.specs.FinMap.{find, put, is_sorted}
use Rattle.tw_types.specs.ValueOrder.{value_cmp}
use Rattle.std.specs.Global.{Box}
use Rattle.tw_datum.specs.declared.tree.Fork.{Fork}
use Rattle.tw_types.specs.declared.value.Value.{Value}

-- holds if neither side has more than three times the entries of the other, with one more counted on each
abbrev pub AreEven : ℕ → ℕ → Type 0
AreEven l r = (l + 1 ≤ 3 * (r + 1)) × (r + 1 ≤ 3 * (l + 1))

-- like `AreEven`, with one entry too many allowed on one side
abbrev pub AreNearlyEven : ℕ → ℕ → Type 0
AreNearlyEven l r = (l ≤ 3 * (r + 1)) × (r ≤ 3 * (l + 1))

-- returns the entries of a node in order
abbrev pub in_fork : {V : Type 0} → Fork V → List (Value × V)
in_fork f = f.before ++ f.own ∷ f.after

-- holds if the stored number is right, and the sides are balanced
abbrev pub IsRight : {V : Type 0} → Fork V → Type 0
IsRight f = (f.len ≡ length f.before + length f.after + 1) × AreEven (length f.before) (length f.after)

-- returns the entries in order
abbrev pub seen : {V : Type 0} → Option (Box (Fork V)) → List (Value × V)
seen None = []
seen (Some f) = in_fork f.value

-- holds if the node is right
abbrev pub IsBalanced : {V : Type 0} → Option (Box (Fork V)) → Type 0
IsBalanced None = Unit {0}
IsBalanced (Some f) = IsRight f.value

-- holds for the entries before and after an insertion at a free key; they stay if it is taken, or if an allocation fails
abbrev pub IsAdded : {V E : Type 0} → Result Bool E → Value → V → List (Value × V) → List (Value × V) → Type 0
IsAdded (Ok true) k v old new = (length new ≡ length old + 1) × (T (is_sorted value_cmp old) → (find value_cmp k old ≡ None) × (new ≡ put value_cmp k v old))
IsAdded (Ok false) k v old new = (new ≡ old) × (T (is_sorted value_cmp old) → IsSome (find value_cmp k old))
IsAdded (Err e) k v old new = (new ≡ old) × (T (is_sorted value_cmp old) → find value_cmp k old ≡ None)
