pub mod Replacing
pub mod Stepping
pub mod Binding
pub mod Counted
pub mod Comparing
