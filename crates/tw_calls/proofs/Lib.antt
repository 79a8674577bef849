mod Ends
mod Kept
