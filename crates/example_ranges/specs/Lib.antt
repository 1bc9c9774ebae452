pub mod HighWater
