-- Reports of drivers in threads on failed allocations, and the seats that they leave.
use Rattle.std.specs.Prelude.{Bool, true, false, ◌||◌, List, [], ◌∷◌, None}
use Rattle.std.specs.List.{FoldsTo}
use Rattle.tw_host.specs.Run.{Run}
use Rattle.tw_host.specs.Seats.{SeatEvents}
use Rattle.tw_workers.specs.AtHost.{AtSeat}
use Rattle.tw_workers.specs.Driving.{Drives, Step}

-- A driver started at a seat with these events, left it with those, and returned whether an allocation failed.
abbrev pub Drove : Run → Type 0 → Type 0 → SeatEvents → SeatEvents → Bool → Type 0
Drove run unwatched stoppable seat left memory = (steps : List Step) × FoldsTo (AtSeat run unwatched stoppable) seat steps left × Drives None steps memory

-- A driver for each seat, and the seats that they left, in this order. An allocation failed if and only if one of them says so, or if a seat had no thread.
pub data AllDrove (run : Run) (unwatched stoppable : Type 0) : List SeatEvents → List SeatEvents → Bool → Type 0 where
  none : AllDrove run unwatched stoppable [] [] false
  threaded : (seat left : SeatEvents) (seats lefts : List SeatEvents) (memory others : Bool) → Drove run unwatched stoppable seat left memory → AllDrove run unwatched stoppable seats lefts others
      → AllDrove run unwatched stoppable (seat ∷ seats) (left ∷ lefts) (memory || others)
  unthreaded : (seat left : SeatEvents) (seats lefts : List SeatEvents) (memory others : Bool) → Drove run unwatched stoppable seat left memory → AllDrove run unwatched stoppable seats lefts others
      → AllDrove run unwatched stoppable (seat ∷ seats) (left ∷ lefts) true
