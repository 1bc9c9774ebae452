mod AttachedLines
mod BufferFacts
pub mod CleanLogs
pub mod Decided
mod FirstThreads
mod Following
mod GivenNumbers
mod HealedLines
mod HomeFacts
pub mod MadeLines
mod NumberFacts
pub mod OneEnd
pub mod OneLog
mod PickFacts
mod PlainTexts
mod ReadLogs
mod SieveFacts
mod SpaceFacts
pub mod TextLists
mod ToldFacts
pub mod UnreadLogs
