pub mod Counting
pub mod Binds
pub mod Replaying
pub mod Chains
