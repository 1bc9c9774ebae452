pub mod Blocks
pub mod Cut
