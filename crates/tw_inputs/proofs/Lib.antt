pub mod Members
pub mod InputReading
pub mod InputTheorems
pub mod Seen
pub mod Listed
