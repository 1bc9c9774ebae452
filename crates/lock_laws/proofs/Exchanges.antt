-- Exchanges that change paths, each kind where it succeeds (a node put into the list or taken out of it), the mark,
-- and an exchange that fails.
pub mod Cutting
pub mod Dropping
pub mod Linking
pub mod Marking
pub mod Putting
pub mod QuickLinking
pub mod QuickUnlinking
pub mod Unlinking
