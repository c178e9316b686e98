pub mod Stated
pub mod Order
pub mod Splits
pub mod Trees
pub mod Valid
pub mod Coverage
pub mod Judged
pub mod Checking
