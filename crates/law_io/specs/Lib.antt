-- The words of the contracts of streams of bytes.
pub mod Counts
pub mod Takings
pub mod Portions
