-- The definitions that a reader has to trust for the pool: the actors of events (Actors), the models of a pool and of its events
-- (PoolView, `History`), and openings (Openings).
-- Turns is the table of scheduling steps, and Ends has the results of a finished run.
pub mod Actors
pub mod History
pub mod PoolView
pub mod Openings
pub mod Turns
pub mod Ends
-- Work says whether work waits for an actor.
pub mod Work
-- Definitions for private functions: reports of pending rules (Pendings), encoded events (Words), and invariants of pools (Kept).
pub mod Pendings
pub mod Words
pub mod Kept
