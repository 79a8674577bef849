-- The data of an input, as they are added one after the other.
use Rattle.std.specs.Prelude.{◌≡◌, ◌<◌, ℕ, None}
use Rattle.std.specs.FinMap.{get}
use Rattle.tw_types.specs.declared.value.Value.{Value}
use Rattle.tw_types.specs.Store.{added}
use Rattle.tw_types.specs.StoreCalls.{inserted}
use Rattle.tw_types.specs.ValueOrder.{Subscript}
use Rattle.tw_store.specs.Served.{Served}
use Rattle.tw_code.specs.machine.Opening.{closed_scalar}

-- holds if data that aren't live have no place
abbrev pub AreAllLive : Served → Type 0
AreAllLive s = (id : ℕ) → get s.store.live id ≡ None → get s.places id ≡ None

-- a closed scalar with the next id was added, and is a member of the container; earlier data keep their places, and no notice was
-- added
pub record HasMember (container : ℕ) (subscript : Subscript) (value : Value) (old new : Served) : Type 0 where
  pub store : new.store ≡ inserted (added old.store (closed_scalar value)) container subscript old.store.next
  pub stays : (id : ℕ) → id < old.store.next → get new.places id ≡ get old.places id
  pub queues : new.queues ≡ old.queues
  pub live : AreAllLive new
