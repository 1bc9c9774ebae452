mod Applying
pub mod ByPlace
pub mod ByView
pub mod Counts
pub mod Enabled
pub mod Opening
mod Operating
pub mod OwnNodes
pub mod Pigeons
pub mod Safety
pub mod SizedSteps
pub mod Sizing
pub mod Stepping
pub mod Table
pub mod Verdicts
pub mod Words
