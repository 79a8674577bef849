mod Arriving
mod Law
mod Runners
mod FrameBufferLists
mod Notes
mod Fitting
mod Delivers
mod Staging
mod Releases
mod Ends
pub mod Goings
mod Takes
mod Copied
mod Handing
mod Kinding
mod Naming
mod Handovers
mod AfterJob
mod Puts
mod NewRules
mod Quieting
pub mod Maps
pub mod Registers
pub mod ValueRegisters
pub mod Left
pub mod Stores
pub mod Gets
pub mod News
pub mod Copies
pub mod Drops
pub mod Inserts
pub mod Looks
pub mod Sizes
pub mod Notifying
pub mod Keeping
pub mod Calling
pub mod Answering
pub mod Adding
pub mod Filled
mod MainParameters
mod Openings
mod PartNames
mod Fronts
