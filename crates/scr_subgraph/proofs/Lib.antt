pub mod Entering
pub mod Formed
