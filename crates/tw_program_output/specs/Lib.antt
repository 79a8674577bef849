-- Output about programs. Assembled has what is assembled, Check a check, Rejection the verifier's errors.
-- Answer has what is found out about an accepted program, Rows the rows of its text, Listing disassembly.
-- Admission has the caps on bounds and which programs are admitted, EventOrder whether the order of events may show.
pub mod Assembled
pub mod ErrorJson
pub mod Answer
pub mod Rows
pub mod Check
pub mod Rejection
pub mod EventOrder
pub mod Place
pub mod Admission
pub mod Listing
