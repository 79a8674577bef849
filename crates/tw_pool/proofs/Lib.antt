pub mod Names
mod Round
pub mod Counting
pub mod Lines
pub mod Opened
mod Pendings
mod Fitting
mod Queueing
mod Keeping
mod Freely
mod Handing
mod Turning
mod Working
pub mod Idling
