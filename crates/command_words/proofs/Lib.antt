pub mod CommandLemmas
pub mod Spellings
