-- The definitions on frames and jobs that a reader has to trust: their models, the contract of every `Done`, and the machine's frame
-- (Jobs). Ready defines when local steps lead somewhere, and why a run stops there.
pub mod Jobs
-- Looks at a stop signal while a task runs.
pub mod Pace
pub mod Ready
pub mod Drafts
-- Definitions for private functions.
pub mod JobBuffers
pub mod Banks
pub mod Slots
pub mod Positions
pub mod Innermost
pub mod Requirements
