pub mod Walks
pub mod AllPlans
pub mod Limits
