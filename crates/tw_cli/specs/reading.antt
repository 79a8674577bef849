-- The definitions for the readers of words, which no public clause uses.
pub mod Rows
