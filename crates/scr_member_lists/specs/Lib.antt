pub mod Members
pub mod Rosters
pub mod Seatings
pub mod Owned
pub mod Benches
