-- Isolation of tasks.
pub mod Isolation
