pub mod Blocks
pub mod Counts
pub mod Days
pub mod Seats
pub mod Users
