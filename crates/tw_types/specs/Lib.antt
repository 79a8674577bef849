-- The definitions on types, values and the store that a reader has to trust, ordered by dependency.
-- They define the limits of types, texts and layouts, and the order of the actors. They define each store call's checks and results,
-- which task an actor takes, and what an engine asks for and releases next.
-- Totals and Counts serve the theorem on counts. TypedStore, Distinct and Circle serve theorems of the crates above.
pub mod Nesting
pub mod DataType
pub mod Nest
pub mod Text
pub mod Layout
pub mod Cause
pub mod Result
pub mod Outcome
pub mod Mode
pub mod Actor
pub mod Value
pub mod ValueOrder
pub mod Given
pub mod Store
pub mod StoreCalls
pub mod StoreChecks
pub mod Room
pub mod Notices
pub mod Task
pub mod Rule
pub mod Mapped
pub mod Totals
pub mod Counts
pub mod TypedStore
pub mod Distinct
pub mod Circle
