pub mod Setting
pub mod Crossing
