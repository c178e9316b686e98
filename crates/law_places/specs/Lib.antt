pub mod Laws
pub mod LineReads
pub mod Progress
