-- The definitions that a reader has to trust for the reference machine: its model (PlainView), errors of openings (Opening), and which
-- events allocate (Memory). Steps and openings are defined by tw_code's machine. Errors of steps are in tw_instr's Attempts. Tasks,
-- rules and the best task are in tw_types.
pub mod PlainView
pub mod Opening
pub mod Memory
-- The code's data structures for tasks, rules and running tasks (Parts, Waiting), the order of waiting tasks (Rank, Ranking), and
-- contracts of private functions on parts of the state.
pub mod Parts
pub mod Waiting
pub mod Rank
pub mod Ranking
pub mod Events
