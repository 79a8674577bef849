-- A reader has to trust all of these. Refused and Contested say which events are refused and contested insertions. Found says what is
-- in outputs, without regard to ids, and OneResult which results are the only ones.
pub mod Refused
pub mod Contested
pub mod Found
pub mod OneResult
