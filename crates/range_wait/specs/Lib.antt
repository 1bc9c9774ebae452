pub mod Seats
pub mod Moves
