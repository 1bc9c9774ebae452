pub mod Events
pub mod Starting
pub mod Calls
pub mod Sleeping
pub use Rattle.atomic_table.specs.Seated
