pub mod Places
pub mod Checks
mod ReplyNames
pub mod Admissions
mod Insertions
pub mod CheckObjects
