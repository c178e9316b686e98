pub mod Ways
pub mod KeptFacts
pub mod BuildFacts
pub mod Slots
pub mod Turning
