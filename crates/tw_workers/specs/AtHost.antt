-- The effects of a driver's steps on a host's seat.
use Rattle.std.specs.Prelude.{◌≡◌}
use Rattle.tw_host.specs.Holds.{SeesAll}
use Rattle.tw_host.specs.Run.{Run}
use Rattle.tw_host.specs.Seats.{SeatEvents}
use Rattle.tw_host.specs.Sees.{Sees}
use Rattle.tw_workers.specs.Driving.{Step, Turned, Held, Stopped, Before, Ran, Left, After}

-- Holds if a scheduling step changes the seat as the host promises. So does a batch, which is made only if the observer doesn't watch.
-- A job is cut off only if the observer may stop the run. No other step changes the seat, and it stays its actor's.
abbrev pub AtSeat : Run → Type 0 → Type 0 → SeatEvents → Step → SeatEvents → Type 0
AtSeat run unwatched stoppable old (Turned given answer) new = (new.actor ≡ old.actor) × Sees run old.actor old.events new.events given answer
AtSeat run unwatched stoppable old (Held given answer) new = unwatched × (new.actor ≡ old.actor) × SeesAll run old.actor old.events new.events given answer
AtSeat run unwatched stoppable old Stopped new = new ≡ old
AtSeat run unwatched stoppable old (Before actor task) new = new ≡ old
AtSeat run unwatched stoppable old (Ran job done) new = new ≡ old
AtSeat run unwatched stoppable old (Left job) new = stoppable × (new ≡ old)
AtSeat run unwatched stoppable old (After actor task) new = new ≡ old
