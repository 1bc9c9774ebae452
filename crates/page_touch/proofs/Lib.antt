mod Counting
mod Probing
mod Firsts
mod Found
mod Beginning
mod Joining
mod Ending
pub mod Seats
