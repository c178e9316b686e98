pub mod SizeFacts
pub mod SortFacts
pub mod CountFacts
pub mod TermCounts
