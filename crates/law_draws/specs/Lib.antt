pub mod Draws
pub mod Sizes
pub mod Choices
