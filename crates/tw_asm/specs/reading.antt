-- Private to the assembler: no public clause uses this folder.
pub mod Expected
pub mod Progress
pub mod Goals
pub mod Operands
pub mod Lines
pub mod ByForms
pub mod Heads
