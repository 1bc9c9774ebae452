mod Crossing
mod Places
mod Rows
mod Shows
mod Steps
mod Tries
