-- A reader has to trust Copies: which registers may hold copies of write rights, and which insertions go by these. Marks is for the
-- contracts of private functions.
pub mod Copies
pub mod Marks
