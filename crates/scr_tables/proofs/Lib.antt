pub mod Apart
pub mod NameBytes
pub mod Leading
pub mod TableRows
pub mod Entries
pub mod Moves
pub mod PastRows
pub mod Counted
