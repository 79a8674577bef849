-- Definitions of assembly text. `Spelling` says which texts denote a program, and `Fault` which fault of a text is the first. `Origins` says from
-- which line an instruction comes, `Disassembly` which text a program has, and `Listing` what the pieces of that text are. They depend on statements:
-- `Parts` is the table of their parts, `Statement` says which words denote them, and `Written` how they are written. `Theorems` has statements about
-- all texts.
pub mod Parts
pub mod Statement
pub mod Written
pub mod Spelling
pub mod Fault
pub mod Origins
pub mod Disassembly
pub mod Listing
pub mod Theorems
-- Answers, LineAnswers and Seen relate the code's results and statements to these definitions. The state of the readers is in reading and
-- words.
pub mod Answers
pub mod LineAnswers
pub mod Seen
pub mod reading
pub mod words
