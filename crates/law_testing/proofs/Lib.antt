pub mod BothFacts
pub mod Testing
pub mod EvaluatorFacts
