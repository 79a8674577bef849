-- Private to the functions of this crate: no public clause uses this folder.
pub mod Lines
pub mod Skips
