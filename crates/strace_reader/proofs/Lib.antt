mod ArgumentParts
mod MovingParts
mod ResultParts
mod WholeCalls
pub mod FormFacts
pub mod BodyAnswers
mod MapsFacts
mod LineAnswers
pub mod OneOutcome
mod JoinFacts
pub mod OneFeed
pub mod NamedCalls
pub mod KeptCounts
