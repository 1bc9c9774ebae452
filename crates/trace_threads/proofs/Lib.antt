mod Answering
mod Plays
mod Lone
pub mod Collecting
pub mod Hirings
mod Granted
mod Touchers
