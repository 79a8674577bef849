mod Bounded
mod Cutting
mod Drawing
mod Frames
pub mod Leaves
mod Leaving
mod Metered
mod Moving
pub mod Names
mod Opening
mod Rounding
mod Same
mod Stops
mod Watching
