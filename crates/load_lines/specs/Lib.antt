pub mod Generator
pub mod Calls
