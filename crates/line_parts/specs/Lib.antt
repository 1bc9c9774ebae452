pub mod Parts
pub mod Leaves
pub mod Lists
pub mod Reading
pub mod Lines
