pub mod Slotted
pub mod Pushed
pub mod Counted
pub mod Drawn
