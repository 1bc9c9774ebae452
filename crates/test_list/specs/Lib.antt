pub mod Calls
pub mod Trials
pub use Rattle.atomic_table.specs.Seated
pub use Rattle.epoch_pools.specs.Hands
pub use Rattle.lock_core.specs.Nodes
