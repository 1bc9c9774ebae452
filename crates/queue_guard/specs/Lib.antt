pub mod Places
pub mod Acts
pub mod Rule
pub mod Parts
pub mod Lines
pub mod Looking
pub mod Telling
pub mod Keeping
