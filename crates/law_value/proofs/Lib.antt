pub mod CellFacts
pub mod ReadFacts
pub mod WriteFacts
