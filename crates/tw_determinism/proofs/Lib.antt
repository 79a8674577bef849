mod MachineNames
mod Names
mod CoreEffects
mod CoreMachine
pub mod Options
mod Keeping
mod Persisting
mod Growing
mod Swapping
mod Paths
mod Showing
mod Closing
mod Holding
mod Remaining
mod Agreeing
mod Quieting
mod CellsShown
mod SharedShown
mod DataShown
mod DataFollows
mod LocalFollows
pub mod RuleFollows
mod TakeFollows
mod EachFollows
mod Later
mod Finding
mod Alike
pub mod Begun
mod Contesting
mod Theorem
