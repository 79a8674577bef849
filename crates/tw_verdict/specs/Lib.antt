-- Formats of a source.
pub mod Format
-- Reading a source, and the position of its error.
pub mod Source
-- Verdicts without a position in a text.
pub mod Verdict
