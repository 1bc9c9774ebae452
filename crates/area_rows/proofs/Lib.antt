mod Halving
mod Moments
mod Gathering
mod Neighbours
pub mod Reading
mod Stepping
mod OneRow
mod ReplacingRows
mod AreaChoices
mod Seeing
pub mod Wholes
mod Beginning
mod BlockSlots
mod Searching
mod LayoutLoads
mod Pairing
pub use Rattle.area_guard.proofs.Storing
mod Written
