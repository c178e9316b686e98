pub mod Course
pub mod Rules
pub mod Walks
pub mod Columns
pub mod Spreads
pub mod Places
pub mod Blocks
pub mod Inside
