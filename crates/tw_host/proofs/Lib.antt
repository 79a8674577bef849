mod Comparing
mod Lists
mod Fitting
pub mod Names
pub mod Owning
pub mod Turning
pub mod Holding
mod Ordering
mod Settling
mod Unmoved
mod Reported
mod Knowing
mod Masks
mod Waking
mod Batching
mod Naming
