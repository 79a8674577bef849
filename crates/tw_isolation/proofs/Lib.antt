pub mod Keeping
pub mod Events
pub mod ByRight
