-- The outputs as JSON values, the object of a run, and lines of JSON.
pub mod Outputs
pub mod Run
pub mod Lines
