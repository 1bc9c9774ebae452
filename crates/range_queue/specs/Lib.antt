pub mod Looks
pub mod Opening
pub mod Settled
pub mod Tries
