pub mod ByDay
pub mod Seats
pub mod Uses
