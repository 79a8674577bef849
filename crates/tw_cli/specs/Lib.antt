-- The definitions that a reader has to trust for the command line. Rows defines the commands, their arguments, and after which options a file is named.
-- Order says what of an order, or of the reason why there is none, is by the arguments; Explanations what codes mean. Those for private clauses are in reading.
pub mod Explanations
pub mod Rows
pub mod Order
pub mod reading
