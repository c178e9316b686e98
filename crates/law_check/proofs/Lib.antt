pub mod Agreeing
pub mod OwnAgreeing
