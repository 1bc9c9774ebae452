mod Steps
pub mod Pieces
pub mod Slots
mod Puts
mod MovedWords
mod OneBlock
pub mod Places
pub mod Finds
mod Splits
mod Removals
mod Appends
mod Merges
pub mod RowSplices
pub mod Counts
mod Lays
mod Halves
mod Comings
mod Cuts
mod GapRows
pub mod KeptGaps
mod Tells
mod Passed
mod Puttings
mod Settlings
mod Pairs
mod Writes
mod Fills
