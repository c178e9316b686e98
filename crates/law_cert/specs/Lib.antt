pub mod Finishes
pub mod Phases
