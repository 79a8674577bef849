mod Copying
mod Marking
pub mod Names
mod Spare
mod Handing
mod DataSpare
mod Summing
mod Along
mod Events
pub mod Tracking
mod Registers
pub mod Marked
pub mod Fitting
