pub mod Parting
pub mod Members
pub mod Told
pub mod Fixed
pub mod Growing
pub mod Led
pub mod Renaming
