-- The definitions of the theorems that a reader has to trust: NoTrap for the main theorem, InOrder for further properties of the states
-- that are reached, EndsWell for the ends of runs.
pub mod NoTrap
pub mod InOrder
pub mod EndsWell
-- The invariant of each state that an accepted program reaches, in the form in which an event keeps it. The theorems are proved by
-- it, and none of it has to be trusted.
pub mod Noticed
pub mod Invariant
pub mod AtPlace
