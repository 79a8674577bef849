-- Ends defines the report of the end of a run on the pool, from the report of a state. EventOrder defines what `--order` adds, and Run
-- all output of a run.
pub mod Ends
pub mod Json
pub mod EventOrder
pub mod Run
-- The facts that the code has about a run that is over.
pub mod Over
