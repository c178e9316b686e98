pub mod HeightFacts
pub mod LineSteps
pub mod RowFacts
pub mod TailFacts
pub mod TakerFacts
pub mod ValuedFacts
