-- A program's inputs. InputWords defines which input a word encodes, WordErrors what is said if it encodes none. JsonInputs defines which
-- inputs a JSON array has, and JsonLines those of a line that may have an id. Lists is for private clauses.
pub mod InputWords
pub mod WordErrors
pub mod Lists
pub mod JsonInputs
pub mod JsonLines
