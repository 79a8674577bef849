-- The events that a seat gets from a step of the pool.
use Rattle.tw_host.proofs.Names.{Actor, AreOwn, DoneView, IsAnswerOf, IsDoneOf, IsTurn, List, Option, PoolView, Turn, [], ap, arith, closing_at, drop, length, length-append, refl, ◌++◌, ◌+◌, ◌∙◌, ◌∷◌, ◌≡◌, ◌≤◌}
use Rattle.tw_pool.proofs.Lines.{own_events}
use Rattle.tw_host.proofs.Fitting.{fits}
use Rattle.tw_host.proofs.Owning.{is_answer_of}

-- the events after the old ones are those that were appended
module _ (old new : PoolView) (actor : Actor) (given : Option DoneView) (answer : Turn) (turn : IsTurn old actor given answer new) where
  pub own : AreOwn actor turn.events
  own = own_events old turn.state actor answer turn.events (closing_at old turn.state) given turn.is

  grown : new.history ≡ old.history ++ turn.events
  grown = ap (λ (p : PoolView). p.history) turn.appended

  pub longer : length new.history ≡ length old.history + length turn.events
  longer = ap length grown ∙ length-append old.history turn.events

  pub within : length old.history ≤ old.limit → length new.history ≤ old.limit
  within low =
      let f = fits old answer turn.events turn.state actor (closing_at old turn.state) given refl low turn.is in
      omega (arith, f, longer)

  pub answers : IsDoneOf old.program given → IsAnswerOf old.program answer
  answers = is_answer_of old new actor given answer turn
