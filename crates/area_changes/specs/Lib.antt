pub mod Changes
pub mod Touching
