-- Definitions for the readers' own contracts: no public clause uses this folder.
pub mod Inside
pub mod Next
