pub mod Finals
pub mod RunEvents
pub mod Instructions
pub mod Tracing
pub mod Closings
pub mod Orders
mod RunNames
