pub mod Entries
pub mod Storing
