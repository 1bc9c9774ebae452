pub mod Blocks
pub mod Gaps
pub mod Limits
pub mod Moves
pub mod Positions
pub mod Searches
