-- What every step that changes no path leaves as it is: the invariant by views, the words and paths that stay, and
-- where nodes stand.
pub mod Frame
pub mod Idle
pub mod Moving
pub mod Owns
pub mod Parts
pub mod Quiet
pub mod Seeing
pub mod Steady
