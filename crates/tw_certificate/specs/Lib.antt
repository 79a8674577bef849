-- A reader has to trust these: FirstContest says which insertion of a run is the first contested one, and Printed what it means that
-- outputs are printed alike.
pub mod FirstContest
pub mod Printed
-- Definitions for private functions.
pub mod Noted
