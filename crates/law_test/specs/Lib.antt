pub mod Words
pub mod Memo
