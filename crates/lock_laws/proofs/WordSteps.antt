-- The steps that change no path, each kind by what is special to it: epochs and pools, the own node's words, and the
-- walk with both validations.
pub mod Barring
pub mod Entering
pub mod FillSteps
pub mod Homing
pub mod Judged
pub mod Reading
pub mod Settling
pub mod Walking
