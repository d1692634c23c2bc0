pub mod Files
mod Pieces
