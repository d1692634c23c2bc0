pub mod Due
pub mod Loss
pub mod Payments
pub mod Sums
pub mod LossEnds
