-- Programs and inputs that are read, and their errors. Replies are in Reply, errors in Failure, the place of a name in NamePlace, lines of a text in Text.
-- Program has the program that is read, Inputs the inputs.
pub mod Input
pub mod Reply
pub mod Failure
pub mod NamePlace
pub mod Program
pub mod Text
pub mod Inputs
-- The model of what the code keeps of a text, and of its first line.
pub mod Source
pub mod WrittenLines
pub mod FirstLine
