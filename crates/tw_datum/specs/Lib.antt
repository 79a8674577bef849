-- The definitions that a reader has to trust for tw_datum: a datum with its members as stored (Kept), and which values a map takes (Puts). Its contracts otherwise use
-- tw_types' Store, StoreCalls and StoreChecks, and the standard library's finite map. Tree defines the model of a node of the
-- map's tree, and when it is balanced, for the tree's invariant.
pub mod Kept
pub mod Puts
pub mod Tree
pub mod Run
