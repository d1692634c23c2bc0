pub mod Told
pub mod Taken
pub mod Account
pub mod Moves
