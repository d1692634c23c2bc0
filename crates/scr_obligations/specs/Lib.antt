pub mod Plan
pub mod Moment
pub mod Owes
pub mod Steps
pub mod Outcome
pub mod Answers
