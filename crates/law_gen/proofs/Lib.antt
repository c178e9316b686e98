pub mod Turns
pub mod RoomFacts
pub mod PoolFacts
