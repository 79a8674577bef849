-- The values of a flag, and its word. Clauses speak of Flags, which rests on these.
pub mod Values
-- Calls on a flag.
pub mod Flags
