pub mod Named
pub mod Certificates
