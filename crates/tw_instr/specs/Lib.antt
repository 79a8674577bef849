-- The definitions that a reader has to trust: the results of instructions (Attempts), which of those on data allocate (Memory), how
-- many local instructions a task can execute (Stretch), and bounds of counts (Room).
-- A datum that is added closed is `closed_datum` of tw_datum's Kept, with the content that Content defines. The semantics of
-- instructions is tw_code's machine. The results of calls on live data are in tw_types: Store, StoreCalls and StoreChecks.
pub mod Attempts
pub mod Memory
pub mod Stretch
pub mod Room
pub mod Content
-- The code's data structures: Contexts makes store, notices and frame the machine's context, NoticeSets says which notices a set has.
pub mod Contexts
pub mod Arguments
pub mod Parts
pub mod NoticeSets
