mod NumberEnds
pub mod Searches
mod FieldFacts
mod RunFacts
pub mod PlainFacts
pub mod MarkFacts
pub mod LineFacts
pub mod MakerFacts
pub mod MendFacts
