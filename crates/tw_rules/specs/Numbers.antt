-- The numbers of an engine's rules.
use Rattle.std.specs.Prelude.{ℕ, ◌≤◌, ◌<◌, ◌+◌, Bool, if◌then◌else◌, List, [], ◌∷◌, map}
use Rattle.std.specs.List.{Contains}
use Rattle.std.specs.List.Sorted.{IsPermutation}
use Rattle.std.specs.BinaryHeap.{IsHeap, heap_items, heap_len, heap_capacity}
use Rattle.std.specs.declared.collections.BinaryHeap.{BinaryHeap}
use Rattle.std.specs.declared.alloc.Global.{Global}
use Rattle.std.specs.declared.cmp.Reverse.{Reverse}
use Rattle.std.specs.Ordering.{nat_cmp}

-- the numbers in the order of adding; and whether there is memory for one more
pub record Asked : Type 0 where
  pub numbers : List ℕ
  pub has_room : Bool

-- the numbers in any order; for how many more memory was promised; and whether there is memory for another one
pub record Released : Type 0 where
  pub numbers : List ℕ
  pub promised : ℕ
  pub has_room : Bool

abbrev pub Heap : Type 0
Heap = BinaryHeap (Reverse ℕ) Global

abbrev pub numbers_in : Heap → List ℕ
numbers_in heap = map (λ r. r.0) (heap_items heap)

-- the least one is first, and there is memory for `promised` more
pub record IsRoomy (heap : Heap) (promised : ℕ) : Type 0 where
  pub ordered : IsHeap (λ x y. nat_cmp y.0 x.0) (heap_items heap)
  pub room : heap_len heap + promised ≤ heap_capacity heap

-- it is in the list, and none is less
pub record IsLeast (numbers : List ℕ) (least : ℕ) : Type 0 where
  pub there : Contains numbers least
  pub below : (number : ℕ) → Contains numbers number → least ≤ number

-- holds if the least number was dropped, if there was one
abbrev pub IsWithoutLeast : List ℕ → List ℕ → Type 0
IsWithoutLeast old new = (least : ℕ) → IsLeast old least → IsPermutation old (least ∷ new)

-- holds if each is below those after it
abbrev pub Rises : List ℕ → Type 0
Rises [] = Unit {0}
Rises (number ∷ numbers) = ((later : ℕ) → Contains numbers later → number < later) × Rises numbers

-- drops the numbers before the first one that passes the test
abbrev pub from_first : (ℕ → Bool) → List ℕ → List ℕ
from_first test [] = []
from_first test (number ∷ numbers) = if test number then number ∷ numbers else from_first test numbers
