pub mod Arriving
mod Beginning
mod Following
mod Judging
mod Lines
mod Moments
mod Owning
pub mod Passing
mod Swept
pub mod Unlinking
