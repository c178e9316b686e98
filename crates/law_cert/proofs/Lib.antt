pub mod Ends
pub mod PhaseFacts
pub mod FeedFacts
