pub mod InputLines
pub mod Nones
pub mod Sources
pub mod Tables
pub mod Rejections
pub mod Faults
pub mod Plains
mod ReplyNames
mod NamePlaces
