pub mod Names
pub mod Weave
pub mod Firsts
pub mod Deep
pub mod Quickly
pub mod Running
mod Pacing
pub mod Pairs
mod Ahead
pub mod Lending
pub mod Prefixes
pub mod Starting
pub mod Beginning
pub mod Frames
