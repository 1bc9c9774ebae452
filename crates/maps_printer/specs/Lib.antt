pub mod Numbers
pub mod Words
pub mod Calls
pub mod Lines
pub use Rattle.byte_ports.specs.Bytes
pub use Rattle.byte_ports.specs.Counts
pub use Rattle.page_types.specs.Sets
