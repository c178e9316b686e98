pub mod Rows
pub mod Picks
pub mod Choices
pub mod Stages
pub mod Columns
pub mod Listing
pub mod Laws
