-- Statistics that add up, and the tables of numbers that they have.
pub mod Sums
pub mod Tables
