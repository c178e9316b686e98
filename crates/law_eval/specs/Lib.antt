pub mod Work
pub mod Runs
pub mod Took
