mod Along
mod Coming
mod Exchanges
pub mod Exclusion
mod Frames
pub mod Holding
mod Idle
pub mod Judging
mod Leaving
mod Listing
pub mod Outcomes
mod PathLaws
mod PathSteps
pub mod Paths
pub mod Running
pub mod Seats
mod Short
pub mod Sound
pub mod Starting
mod WordGrants
mod WordLaws
mod WordSteps
