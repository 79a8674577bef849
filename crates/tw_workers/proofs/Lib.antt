mod Crossing
pub mod Driving
pub mod Names
mod Threading
