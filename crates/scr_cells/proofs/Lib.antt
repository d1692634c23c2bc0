pub mod Bounded
mod Forming
mod LineLists
mod LiveCells
