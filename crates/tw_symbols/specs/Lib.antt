-- Symbolic assembly. Lines defines the words of a line, Meanings the meanings of names, LineNames the names that a line adds, Heads the procedures of a
-- text, Renamed a text with its names replaced, and Expansion what a text expands to. These definitions have to be trusted. Theorems states what follows from them.
pub mod Lines
pub mod Meanings
pub mod LineNames
pub mod Heads
pub mod Renamed
pub mod Expansion
pub mod Theorems
-- The names of procedures, for messages.
pub mod Symbols
-- Views of the code's data, and the results of calls.
pub mod Seen
pub mod Answers
