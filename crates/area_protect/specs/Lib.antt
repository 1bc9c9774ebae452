pub mod Looks
pub mod Protects
pub mod Attempts
