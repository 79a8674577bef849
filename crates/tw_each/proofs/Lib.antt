pub mod LineAnswers
pub mod Names
pub mod Pieces
pub mod Written
pub mod Chunks
pub mod Slices
pub mod Room
pub mod WholeReplies
pub mod Sharing
mod Worse
