pub mod Interest
pub mod InterestEnds
