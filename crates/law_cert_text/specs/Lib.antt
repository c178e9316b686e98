pub mod CertLines
pub mod Certificates
pub mod Drafts
pub mod Laws
pub mod Readers
pub mod Readings
pub mod Spelling
pub mod Words
