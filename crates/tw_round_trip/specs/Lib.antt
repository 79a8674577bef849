-- A reader has to trust both: the trace of a run, and what a replay of it prints.
pub mod Traces
pub mod Replays
