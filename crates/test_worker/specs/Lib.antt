pub mod Trials
pub use Rattle.area_rows.specs.Callers
pub use Rattle.page_types.specs.Named
pub use Rattle.space_model.specs.Areas
pub use Rattle.trace_threads.specs.Collected
pub use Rattle.trace_threads.specs.Workers
