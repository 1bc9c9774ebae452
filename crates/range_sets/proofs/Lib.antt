mod Clashing
pub mod NewSeats
mod Places
