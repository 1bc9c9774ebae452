pub mod ReadBack
pub mod RowLists
mod RowPages
mod Gaps
pub mod FreeStays
mod RowsBetween
mod OneList
mod PutRows
pub mod Splices
mod RowChanges
pub mod PlanLeft
mod Loading
mod Comes
