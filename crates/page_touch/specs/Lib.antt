pub mod Touched
pub mod Starting
pub mod Touches
pub mod Probes
pub mod Gathering
pub use Rattle.atomic_table.specs.Seated
