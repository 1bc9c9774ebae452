pub mod RowWords
pub mod RowLists
pub mod Plans
pub mod Planning
pub mod Gaps
pub mod Loads
