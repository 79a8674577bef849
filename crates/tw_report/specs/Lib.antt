-- Texts of events and of traces (Events, `History`), and texts that are written (Lines, Report).
-- The folder reading is private to the readers, and Arguments to the walk through pending rules.
pub mod Events
pub mod History
pub mod Lines
pub mod Report
pub mod Arguments
pub mod reading
