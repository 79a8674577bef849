pub mod Order
pub mod Sides
pub mod Turns
pub mod Entries
pub mod Subscripts
pub mod Members
pub mod EnteredValues
pub mod Puts
mod Runs
