pub mod Numbering
pub mod Places
pub mod Graphs
pub mod KeptRows
pub mod DeadEnds
pub mod Known
pub mod Entering
