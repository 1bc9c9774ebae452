pub mod Shown
pub mod Found
pub mod Places
pub use Rattle.area_rows.specs.Callers
pub use Rattle.area_rows.specs.History
pub use Rattle.area_rows.specs.Areas
pub use Rattle.range_rw.specs.Contract
