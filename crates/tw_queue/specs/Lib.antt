-- The definitions that a reader has to trust for tw_queue are Queues, the model of the queues and of a task, and Targets. The rest is in
-- tw_types: Task. The other files are for private clauses and the invariant.
pub mod Ranks
pub mod RunQueues
pub mod QueuesByTarget
pub mod Slots
pub mod Queues
pub mod RankIndex
pub mod Targets
pub mod Indexed
