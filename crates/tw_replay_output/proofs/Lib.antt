pub mod Playing
pub mod Nexts
pub mod Making
pub mod Replays
pub mod Behinds
pub mod Instructions
mod ReplayNames
