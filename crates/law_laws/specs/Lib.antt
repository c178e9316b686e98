pub mod Coverage
pub mod Orders
pub mod Application
pub mod Derivation
pub mod Agreement
pub mod Renaming
pub mod Filling
pub mod Counting
