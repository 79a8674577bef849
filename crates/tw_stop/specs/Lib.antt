-- The answers of looks, one after the other.
pub mod Looks
