-- The definitions that a reader has to trust: the model of a verified program (Typed), the codes of the errors (`Rejection`), and
-- equality of typings (Same). Accepted programs, their errors, and the requirements and results of instructions are defined in tw_code,
-- under `accepting`; the theorem `no_trap` in tw_soundness. `Theorems` states that there is one first error, and none for accepted programs.
-- Known has the typings known of a rejected program, Quick the instructions in eight bytes, and Searching the slow instructions.
pub mod Typed
pub mod Known
pub mod Rejection
pub mod Same
pub mod Theorems
pub mod Quick
pub mod Searching
-- Definitions for private functions.
pub mod Loops
pub mod Passes
pub mod Verified
