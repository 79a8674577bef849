-- The definitions that a reader has to trust for runs in one thread: their steps and results (InTurn), the words that a seed draws
-- (Drawn), and when two runs have the same results (Same). Bounded states that a run whose events have a bound ends by itself.
pub mod Bounded
pub mod Drawn
pub mod InTurn
pub mod Same
-- Runs that are stopped.
pub mod Stopping
-- Definitions for private functions: what is kept from step to step (Rounds).
pub mod Rounds
