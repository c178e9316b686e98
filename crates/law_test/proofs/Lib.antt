pub mod PoolFacts
pub mod WordFacts
pub mod TableFacts
pub mod Evaluating
