pub mod Behind
pub mod Calls
pub mod Codes
pub mod Recording
pub mod Shown
pub use Rattle.lock_core.specs.Client
pub use Rattle.range_rw.specs.Contract
