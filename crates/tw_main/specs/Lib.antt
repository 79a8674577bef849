pub mod Exit
pub mod Output
