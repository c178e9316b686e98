-- What follows from the words of the contracts, for proofs of this crate.
pub mod CountFacts
pub mod GrowsFacts
