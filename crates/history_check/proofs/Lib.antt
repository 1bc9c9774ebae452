pub mod Cutting
pub mod OneVerdict
pub mod Fitting
pub mod Beginnings
mod Remembering
mod RestLines
mod Reaching
mod PrintedLines
mod WordsBack
mod NumbersBack
mod RepliesBack
mod LinesBack
