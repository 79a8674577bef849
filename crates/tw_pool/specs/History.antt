-- The model of a `History`: its events, and their limit.
use Rattle.std.specs.Prelude.{ℕ, List}
use Rattle.tw_types.specs.declared.event.Event.{Event}

pub record HistoryView : Type 0 where
  pub events : List Event
  pub limit : ℕ

-- the model of a list of events of one actor: the events, and for how many there is memory
pub record EventsView : Type 0 where
  pub items : List Event
  pub capacity : ℕ
