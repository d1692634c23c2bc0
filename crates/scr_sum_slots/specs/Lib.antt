pub mod Parts
pub mod Moves
pub mod SlotLists
pub mod Kept
pub mod Firsts
pub mod Filling
pub mod Following
pub mod PartNumbers
