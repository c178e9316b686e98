pub mod BankFacts
pub mod Tops
pub mod Reading
pub mod GivenFacts
pub mod ResultFacts
