pub mod Values
pub mod Evaluators
