-- Output about traces. A replay and its timeline are in Replay, the details of a failed opening in Opening, and those of a circle of rules in Circle.
pub mod Opening
pub mod Circle
pub mod Replay
-- The model of what the code knows of events, and of what it keeps of them.
pub mod Counted
pub mod Stuck
