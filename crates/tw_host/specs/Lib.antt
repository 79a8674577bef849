-- The definitions that a reader has to trust for the host: the seats (Seats), a run (Run), and the results of closing it (Ends).
-- `Sees` defines the result of one step and the events that its seat gets, Holds those of a batch.
pub mod Seats
pub mod Run
pub mod Sees
pub mod Holds
pub mod Ends
-- The invariant of the data under the lock; Sleeping has its part about sleeping actors.
pub mod Sleeping
pub mod Kept
