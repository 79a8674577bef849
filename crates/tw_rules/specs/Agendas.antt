-- Changes of an engine's agenda.
use Rattle.std.specs.Prelude.{◌≡◌, ℕ, ◌+◌, ◌∷◌, ◌++◌, []}
use Rattle.std.specs.List.Sorted.{IsPermutation}
use Rattle.tw_rules.specs.declared.agenda.Agenda.{Agenda}
use Rattle.tw_rules.specs.Numbers.{Released}

-- the rules are the same
pub record IsSameAgenda (old new : Agenda) : Type 0 where
  pub asks : new.asks.numbers ≡ old.asks.numbers
  pub releases : new.releases.numbers ≡ old.releases.numbers
  pub promised : new.releases.promised ≡ old.releases.promised

-- one more ask, whose release is promised
pub record HasOneMoreAsk (number : ℕ) (old new : Agenda) : Type 0 where
  pub asks : new.asks.numbers ≡ old.asks.numbers ++ number ∷ []
  pub releases : new.releases.numbers ≡ old.releases.numbers
  pub promised : new.releases.promised ≡ old.releases.promised + 1

-- one more release
pub record HasReleased (number : ℕ) (old new : Agenda) : Type 0 where
  pub asks : new.asks.numbers ≡ old.asks.numbers
  pub releases : IsPermutation (number ∷ old.releases.numbers) new.releases.numbers
  pub promised : new.releases.promised ≡ old.releases.promised

-- one more release, which was promised
pub record HasMoved (number : ℕ) (old new : Released) : Type 0 where
  pub releases : IsPermutation (number ∷ old.numbers) new.numbers
  pub promised : new.promised + 1 ≡ old.promised
