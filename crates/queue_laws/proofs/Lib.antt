mod Tickets
mod Weights
pub mod Waiting
mod Conflicting
