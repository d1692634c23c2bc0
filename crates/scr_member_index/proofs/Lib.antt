pub mod Counting
pub mod Made
pub mod Members
pub mod Seated
pub mod RowMoves
pub mod Lost
pub mod Turned
