pub mod Printing
pub mod Noting
pub mod Placing
