-- The sleepers that have to be woken, one after another.
use Rattle.tw_host.proofs.Names.{AreTargeted, Bool, Covers, Is, IsConsidered, IsRange, Isnt, Kind, LacksWork, PoolView, WakesKind, WakesOne, WakesOwn, WakesServers, actor_at, ap, arith, bit_and, bit_at, bit_at_or, bit_or, end_of, eqb-false, eqb-true, false, first_of, inl, inr, max, refl, subst, sym, true, ℕ, ◌+◌, ◌<◌, ◌==◌, ◌∙◌, ◌≡◌, ◌≢◌, ◌≤◌, ◌⊎◌}
use Rattle.tw_host.proofs.Masks.{some_there}
use Rattle.tw_host.proofs.Settling.{is_or_isnt, not_both}

-- ---- one sleeper more

module _ (p : PoolView) (asleep from index old new : ℕ) (was_left is_left : Bool) (low : index < 64) (c : IsConsidered p asleep index old new was_left is_left) where
  last : (P : ℕ → Type 0) (i : ℕ) → i < index + 1 → (i < index → P i) → (i ≡ index → P i) → P i
  last P i below before here = by (i == index) refl
    where
      by : (b : Bool) → (i == index) ≡ b → P i
      by true e = here (eqb-true i index e)
      by false e = let other = eqb-false i index e in before (omega (arith, below, other))

  not_before : (i : ℕ) → i < 64 → Isnt new i → Isnt old i
  not_before i within isnt = by (is_or_isnt old i)
    where
      by : Is old i ⊎ Isnt old i → Isnt old i
      by (inl is) = not_both new i (c.kept i within is) isnt
      by (inr none) = none

  pub more_own : WakesOwn p asleep old from index → WakesOwn p asleep new from (index + 1)
  more_own before i above below is isnt =
      last (λ k. LacksWork p (actor_at p.layout k)) i below (λ under. before i above under is (not_before i (omega (arith, under, low)) isnt))
      (λ same. subst (λ (k : ℕ). LacksWork p (actor_at p.layout k)) (sym same) (c.own (ap (bit_at asleep) (sym same) ∙ is) (ap (bit_at new) (sym same) ∙ isnt)))

  pub more_left : (task : Bool) → (was_left ≡ task) ⊎ WakesOne asleep old from index → from ≤ index → (is_left ≡ task) ⊎ WakesOne asleep new from (index + 1)
  more_left task before above = by before c.left
    where
      by : (was_left ≡ task) ⊎ WakesOne asleep old from index → (is_left ≡ was_left) ⊎ (Is asleep index × Is new index) → (is_left ≡ task) ⊎ WakesOne asleep new from (index + 1)
      by (inl same) (inl e) = inl (e ∙ same)
      by b (inr w) = inr (index, above, omega arith, w.0, w.1)
      by (inr (i, over, under, is, due)) l = inr (i, over, omega (arith, under), is, c.kept i (omega (arith, under, low)) due)

  pub more_one : (was_left ≡ true → (i : ℕ) → from ≤ i → i < index → Is asleep i → Is old i) → is_left ≡ true → (i : ℕ) → from ≤ i → i < index + 1 → Is asleep i → Is new i
  more_one before left i above below is =
      last (λ k. Is new k) i below (λ under. c.kept i (omega (arith, under, low)) (before (c.less left) i above under is)) (λ same. ap (bit_at new) same ∙ c.one left (ap (bit_at asleep) (sym same) ∙ is))

pub all_considered : (asleep from to due : ℕ) (left task : Bool) → (left ≡ task) ⊎ WakesOne asleep due from to → (left ≡ true → (i : ℕ) → from ≤ i → i < to → Is asleep i → Is due i)
    → task ≡ true → (i : ℕ) → from ≤ i → i < to → Is asleep i → WakesOne asleep due from to
all_considered asleep from to due left task (inr one) each = λ yes i above below is. one
all_considered asleep from to due left task (inl same) each = λ yes i above below is. (i, above, below, is, each (same ∙ yes) i above below is)

-- up to the end
pub one_in : (asleep due from index to : ℕ) {A : Type 0} → index ≤ to → A ⊎ WakesOne asleep due from index → A ⊎ WakesOne asleep due from to
one_in asleep due from index to low (inl a) = inl a
one_in asleep due from index to low (inr (i, above, below, is, is_due)) = inr (i, above, omega (arith, below, low), is, is_due)

-- whether a task was left or not
pub covers_by : (p : PoolView) (asleep out due mask from to : ℕ) (kind : Kind) → from ≡ first_of kind p.layout → to ≡ end_of kind p.layout → IsRange from to mask → bit_and asleep mask ≢ 0 → (task : Bool)
    → (task ≡ false → AreTargeted p kind ⊎ ((i : ℕ) × (i < 64) × Is mask i × Isnt asleep i × Isnt out i))
    → (task ≡ true → (i : ℕ) → from ≤ i → i < to → Is asleep i → WakesOne asleep due from to) → Covers p asleep out due kind
covers_by p asleep out due mask from to kind first last r some task none one = by task refl
  where
    lacking : AreTargeted p kind ⊎ ((i : ℕ) × (i < 64) × Is mask i × Isnt asleep i × Isnt out i) → Covers p asleep out due kind
    lacking (inl targeted) = inl (inl targeted)
    lacking (inr (i, low, inside, isnt, in_)) = let at = r.only i inside in inl (inr (inr (i, omega (arith, at.0, first), omega (arith, at.1, last), isnt, in_)))

    woken : WakesOne asleep due from to → Covers p asleep out due kind
    woken (i, above, below, is, is_due) = inr (i, omega (arith, above, first), omega (arith, below, last), is, is_due)

    by : (b : Bool) → task ≡ b → Covers p asleep out due kind
    by true e = let s = some_there asleep mask from to r some in woken (one e s.0 s.1 s.2 s.3)
    by false e = lacking (none e)

-- ---- sleepers of several kinds

first_has : (a b i : ℕ) → Is a i → Is (bit_or a b) i
first_has a b i is = by (is_or_isnt b i)
  where
    by : Is b i ⊎ Isnt b i → Is (bit_or a b) i
    by (inl q) = bit_at_or a b i ∙ (ap (λ (x : ℕ). max x (bit_at b i)) is ∙ ap (max 1) q)
    by (inr q) = bit_at_or a b i ∙ (ap (λ (x : ℕ). max x (bit_at b i)) is ∙ ap (max 1) q)

second_has : (a b i : ℕ) → Is b i → Is (bit_or a b) i
second_has a b i is = by (is_or_isnt a i)
  where
    by : Is a i ⊎ Isnt a i → Is (bit_or a b) i
    by (inl p) = first_has a b i p
    by (inr p) = bit_at_or a b i ∙ (ap (λ (x : ℕ). max x (bit_at b i)) p ∙ ap (max 0) is)

-- more of them
abbrev Within : ℕ → ℕ → Type 0
Within due more = (i : ℕ) → Is due i → Is more i

isnt_less : (due more i : ℕ) → Within due more → Isnt more i → Isnt due i
isnt_less due more i within isnt = by (is_or_isnt due i)
  where
    by : Is due i ⊎ Isnt due i → Isnt due i
    by (inl is) = not_both more i (within i is) isnt
    by (inr none) = none

module _ (p : PoolView) (asleep out due more : ℕ) (within : Within due more) where
  own_more : (from to : ℕ) → WakesOwn p asleep due from to → WakesOwn p asleep more from to
  own_more from to own i above below is isnt = own i above below is (isnt_less due more i within isnt)

  covers_more : (kind : Kind) → Covers p asleep out due kind → Covers p asleep out more kind
  covers_more kind (inl h) = inl h
  covers_more kind (inr (i, above, below, is, is_due)) = inr (i, above, below, is, within i is_due)

  kind_more : (kind : Kind) → WakesKind p asleep out due kind → WakesKind p asleep out more kind
  kind_more kind w = (own_more (first_of kind p.layout) (end_of kind p.layout) w.0, covers_more kind w.1)

  servers_more : WakesServers p asleep due → WakesServers p asleep more
  servers_more own = own_more p.layout.engines (p.layout.engines + p.layout.servers) own

module _ (p : PoolView) (asleep out a b : ℕ) where
  pub kind_first : (kind : Kind) → WakesKind p asleep out a kind → WakesKind p asleep out (bit_or a b) kind
  kind_first kind = kind_more p asleep out a (bit_or a b) (first_has a b) kind

  pub kind_second : (kind : Kind) → WakesKind p asleep out b kind → WakesKind p asleep out (bit_or a b) kind
  kind_second kind = kind_more p asleep out b (bit_or a b) (second_has a b) kind

  pub servers_first : WakesServers p asleep a → WakesServers p asleep (bit_or a b)
  servers_first = servers_more p asleep out a (bit_or a b) (first_has a b)

  pub servers_second : WakesServers p asleep b → WakesServers p asleep (bit_or a b)
  servers_second = servers_more p asleep out b (bit_or a b) (second_has a b)
