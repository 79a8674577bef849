-- Answers defines the answers to lines of inputs, Reply the whole reply, and Stream what is written while lines are read.
pub mod Answers
pub mod Reply
pub mod Stream
-- The next step of a program, and the shares of lines that threads answer.
pub mod Ready
pub mod Shares
-- The worst end of lines, and what a session ends with.
pub mod Worst
-- Names of other crates that several files here use.
pub mod Names
