pub mod Terms
pub mod Bank
pub mod Bindings
pub mod Orders
pub mod Laws
