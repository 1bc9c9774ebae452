pub mod AreaKinds
pub mod Joining
pub mod Changing
mod Searching
pub mod Counting
pub mod NamedKinds
pub mod Stepping
mod InOrder
pub mod Simple
mod Deciding
pub mod Effects
pub mod HeapEnds
pub mod Remapping
pub mod Remapped
pub mod Judgements
mod Looks
pub mod OneAnswer
pub mod SomeAnswer
pub mod TwiceOnce
pub mod FourWays
pub mod Histories
pub mod MaximalRuns
mod CertainReplies
mod Halving
mod Highest
mod Splicing
mod SealedStay
mod InBlocks
mod InPlaces
mod InRoom
