pub mod Looking
mod Stages
pub mod Lone
mod Newcomers
mod Answering
mod Asking
