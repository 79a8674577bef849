pub mod Causes
pub mod Lists
pub mod Mistakes
pub mod OneRejection
pub mod Places
pub mod Programs
pub mod QuickCode
pub mod Reaching
pub mod Stops
pub mod RightTypings
pub mod Typings
pub mod Asking
pub mod Numbers
pub mod OneMore
mod VerifierNames
