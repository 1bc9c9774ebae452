pub mod AsBox
pub mod Crossing
pub mod Refusals
