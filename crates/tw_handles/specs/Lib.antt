-- Calls on a loaded program.
pub mod Asking
-- Caps on runs, and bounds.
pub mod Caps
-- Certificates of runs.
pub mod Certificates
-- The codes that calls return.
pub mod Codes
-- Containers that are to be inputs.
pub mod Containers
-- Whether the order of events may show.
pub mod EventOrder
-- The place of a subscript in an output.
pub mod Finding
-- Members that are given at once.
pub mod Lists
-- The contents of a handle. A program in it is the one that the bytes encode.
pub mod Loading
-- Many members of an output at once.
pub mod Many
-- Calls on the members of an output.
pub mod Members
-- The meter of a run.
pub mod Meter
-- Numbers that are written for C.
pub mod Numbers
-- Calls on a report.
pub mod Reading
-- Inputs and runs.
pub mod Running
-- Procedures and parameters of a loaded program.
pub mod Shape
-- The members or values of an output, by their subscripts.
pub mod Shown
-- The memory of a handle.
pub mod Slot
-- Stop flags.
pub mod Stops
-- Texts of reports and sources.
pub mod Texts
-- The first input that doesn't fit main.
pub mod Unfit
-- Names of other crates that several files here use.
pub mod Names
