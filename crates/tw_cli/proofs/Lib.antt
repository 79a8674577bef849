pub mod FoundRows
pub mod Tables
pub mod Words
pub mod Names
