pub mod BankFacts
pub mod BindingFacts
pub mod OrderFacts
pub mod KboFacts
