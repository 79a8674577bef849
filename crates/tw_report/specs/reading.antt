-- Definitions for the readers' own contracts: no public clause uses this folder.
pub mod Words
pub mod Event
pub mod History
