pub mod LeftFacts
pub mod TopFacts
pub mod AnswerFacts
pub mod Answered
pub mod OneAnswer
pub mod CheckAnswers
pub mod Completeness
