mod Stretches
mod Showing
mod Ends
mod Putting
