pub mod OneList
mod Adding
mod Untouched
mod Running
