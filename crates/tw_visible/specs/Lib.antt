-- Texts without hidden characters.
pub mod Visible
