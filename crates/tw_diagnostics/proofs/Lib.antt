pub mod Heads
pub mod Saying
mod RoleNames
