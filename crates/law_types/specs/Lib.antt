pub mod Heights
pub mod Rows
pub mod Valued
