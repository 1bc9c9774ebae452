pub mod Handles
pub mod Asked
