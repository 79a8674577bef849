-- The definitions that a reader has to trust for all calls: how numbers and quoted texts are written (Number, Quoted), and how lines
-- are split into words (Words).
-- `Theorems` has the two theorems. Seen relates the code's words to them. The folder reading is private to the readers.
-- Digits and Names serve crates above: which number is read, and which texts are names. Shown shortens long texts for messages.
pub mod Number
pub mod Quoted
pub mod Words
pub mod Theorems
pub mod Seen
pub mod Digits
pub mod Names
pub mod Shown
pub mod reading
-- Hashing of names.
pub mod Hash
