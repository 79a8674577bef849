-- Passes on what the files here use of other crates and of the definitions.
pub use Rattle.std.proofs.Common.{Bool, List, None, Option, Some, [], ap, append_assoc, drop, false, get_or, length, map, refl, rules, subst, sym, true, ◌++◌, ◌||◌, ◌∙◌, ◌∷◌, ◌≡◌}
pub use Rattle.std.specs.List.{FoldsTo}
pub use Rattle.tw_frame.specs.Jobs.{DoneView}
pub use Rattle.tw_host.specs.Run.{Run}
pub use Rattle.tw_host.specs.Seats.{SeatEvents, actors_of, seen_by}
pub use Rattle.tw_workers.specs.AtHost.{AtSeat}
pub use Rattle.tw_workers.specs.Driving.{After, Answer, Before, Continues, Drives, Ends, GivesUp, Held, Left, Ran, Step, Stopped, Turned, ends, goes, step_or_batch, working}
pub use Rattle.tw_workers.specs.Threads.{AllDrove, Drove}
