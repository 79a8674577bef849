-- Changes of data that keep type and members, keep closed data closed, and keep content and writers right.
use Rattle.std.proofs.Common.{ℕ, suc, ◌+◌, ◌≤◌, ◌≡◌, true, Some, refl, ◌∙◌}
use Rattle.tw_soundness.proofs.MachineNames.{AreNested, Balanced, Data, Datum, HasWriters, IsAging, IsOfType, depth_of, drop_read_within, get, insert, inside, is_closed, members_of, settled_by}
use Rattle.tw_types.proofs.Freeing as freeing

-- y is what x has become
pub record Aged (x y : Datum) : Type 0 where
  pub ty : y.ty ≡ x.ty
  pub members : members_of y.content ≡ members_of x.content
  pub closed : is_closed x ≡ true → is_closed y ≡ true
  pub content : IsOfType x.ty x.content → IsOfType y.ty y.content
  pub writers : HasWriters x.content x.writes → HasWriters y.content y.writes

pub aging : IsAging Aged
aging = record {
  ty = λ x y a. a.ty;
  members = λ x y a. a.members;
  itself = λ x. record { ty = refl; members = refl; closed = λ c. c; content = λ h. h; writers = λ h. h };
  after = λ x y z a b. record { ty = b.ty ∙ a.ty; members = b.members ∙ a.members; closed = λ c. b.closed (a.closed c); content = λ h. b.content (a.content h); writers = λ h. b.writers (a.writers h) };
  less = λ x. record { ty = refl; members = refl; closed = λ c. c; content = λ h. h; writers = λ h. h };
}

-- each datum of the first map is what one of the second has become
abbrev pub Later : Data → Data → Type 0
Later n m = freeing.Later Aged aging n m

-- and the counts are right
abbrev pub Freed : Data → Data → (ℕ → ℕ) → (ℕ → ℕ) → Type 0
Freed n m r w = freeing.Freed Aged aging n m r w

abbrev pub Drops : ℕ → (Data → ℕ → Data) → Type 0
Drops depth drop = freeing.Drops Aged aging depth drop

pub later_put : (m : Data) (id : ℕ) (x y : Datum) → get m id ≡ Some x → Aged x y → Later (insert m id y) m
later_put = freeing.later_put Aged aging

pub nested_later : (n m : Data) → Later n m → AreNested m → AreNested n
nested_later n m l t = freeing.nested_later Aged aging n m l t

pub drops : (depth : ℕ) → Drops (suc depth) (drop_read_within depth)
drops depth = freeing.drops Aged aging depth

pub settled_balanced : (depth : ℕ) (drop : Data → ℕ → Data) → Drops depth drop → (m : Data) (id : ℕ) (x y : Datum) (r w s v : ℕ → ℕ) → AreNested m → get m id ≡ Some x → Balanced m r w
    → depth_of x.ty ≤ depth → Aged x y
    → ((d : ℕ) → (d ≡ id → ⊥) → (s d ≡ r d) × (v d ≡ w d)) → y.reads ≡ inside m id + s id → y.writes ≡ v id
    → Freed (settled_by drop m id y) m s v
settled_balanced depth drop by m id x y r w s v t is b shallow aged other reads writes = freeing.settled_balanced Aged aging depth drop by m id x y r w s v t is b shallow aged other reads writes
