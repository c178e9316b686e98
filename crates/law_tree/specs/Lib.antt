pub mod Asking
pub mod Comparing
pub mod Nodes
pub mod Grown
pub mod Finding
pub mod Listing
pub mod Looking
