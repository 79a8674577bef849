-- The definitions on the encoding of programs that a reader has to trust: the encoding, its parser, and which fault is the first.
-- `Spelling` and `Fault`, with tw_code's definitions of programs and of the table, determine which bytes are accepted, as which program,
-- and where the first fault is. `Reading` also determines the code of a fault whose item is wrong (F01, F02, F04 to F07).
-- `Versions` serves the theorem on programs of several versions.
pub mod Spelling
pub mod Reading
pub mod Fault
pub mod Versions
