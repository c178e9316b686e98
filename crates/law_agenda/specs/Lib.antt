pub mod Walking
pub mod Shelves
pub mod Candidates
pub mod Stores
pub mod Instances
pub mod Agendas
pub mod Marks
