pub mod Sequence
pub mod Choices
pub mod Leaves
pub mod Numerals
pub mod Lists
pub mod LineLemmas
