pub mod Forests
pub mod Printed
