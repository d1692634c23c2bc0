pub mod Blocks
pub mod ShortSeats
pub mod Lists
pub mod Rings
pub mod Linked
pub mod Changed
pub mod Joins
pub mod States
