pub mod Keeping
pub mod NextKept
pub mod OwnTests
pub mod Standing
