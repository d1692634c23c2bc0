pub mod Workable
pub mod DueForming
pub mod Rows
pub mod Pieces
pub mod Apart
pub mod PieceForming
pub mod Hands
