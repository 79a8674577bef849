pub mod Floats
pub mod Members
pub mod OneLine
mod Wholes
