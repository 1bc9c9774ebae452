pub mod NumbersRead
mod WordsRead
pub mod CallsRead
pub mod LogsRead
