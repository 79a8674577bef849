-- The definitions that a reader has to trust: costs of walks (Cost), weights of tasks (Bounds), what a state holds (Contents),
-- what is counted along runs (Runs), and the ends of runs (Ends). Also reported bounds (Reports), calls that lead back (Circles), bounds by a limit (Limited), and the smaller of both (Least).
pub mod Contents
pub mod Cost
pub mod Bounds
pub mod Runs
pub mod Ends
pub mod Reports
pub mod Circles
pub mod Limited
pub mod Least
-- Definitions for private functions and proofs.
pub mod GreatestCost
pub mod Rows
pub mod Solving
