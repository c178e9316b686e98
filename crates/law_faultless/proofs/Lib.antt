pub mod BodyComplete
pub mod DeclaresBack
pub mod Fine
pub mod HeightComplete
pub mod LaidBack
pub mod OneSignature
pub mod ReadBack
pub mod TextBack
