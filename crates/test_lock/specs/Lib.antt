pub mod Tally
pub mod Turnstile
pub mod Turns
pub use Rattle.lock_core.specs.Client
pub use Rattle.lock_core.specs.Grants
pub use Rattle.lock_core.specs.Range
pub use Rattle.range_rw.specs.Contract
