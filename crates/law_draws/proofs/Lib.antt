pub mod First
pub mod ChoiceFacts
pub mod DrawFacts
pub mod ShapeFacts
