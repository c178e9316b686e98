pub mod Splits
pub mod Agree
pub mod Rule
pub mod Placing
pub mod Laws
