pub mod LogLines
pub mod Reading
pub mod Logs
pub mod Verdicts
pub mod Laws
pub mod Checking
pub use Rattle.line_parts.specs.Lines
