pub mod Kept
pub mod Wheels
