-- The definitions that a reader has to trust for a pool's parts: the slots (RunningTasks), the queued notices (Notes), the state of the parts
-- (Parts), and their invariants (Fits). Queued has the order of the notices along the events.
-- Coming defines changes of a task after a job, Events the effect of one event, Opening the parts of an opened program, and Memory where
-- an instruction on data allocates.
pub mod RunningTasks
pub mod Notes
pub mod Queued
pub mod Parts
pub mod Fits
pub mod Coming
pub mod Events
pub mod Opening
pub mod Memory
pub mod Work
-- Definitions for private functions.
pub mod Copies
pub mod Data
pub mod Givens
pub mod OpenedParts
