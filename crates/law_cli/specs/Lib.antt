-- The words of the top call's contract.
pub mod Commands
pub mod Printed
pub mod Reading
pub mod Answers
pub mod Checks
pub mod Laws
pub mod Promise
