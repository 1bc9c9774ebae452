mod CountLemmas
mod RunLemmas
mod WordLemmas
