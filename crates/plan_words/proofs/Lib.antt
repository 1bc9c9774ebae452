pub mod Knowing
mod Moments
mod Storing
mod Rows
pub mod Seeing
mod Numbers
pub mod Plans
mod HeldPlaces
