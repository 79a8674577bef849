pub mod Naming
pub mod Seen
pub mod Format
pub mod Input
pub mod Opening
