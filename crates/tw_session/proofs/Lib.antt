pub mod Leading
pub mod Answering
pub mod Ran
pub mod Replies
mod Clockless
mod SessionNames
pub mod Ending
