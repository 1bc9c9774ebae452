pub mod Behind
pub mod Calls
pub mod Codes
pub mod Looks
pub mod Shown
pub mod Spans
pub use Rattle.area_rows.specs.Called
pub use Rattle.range_rw.specs.Contract
