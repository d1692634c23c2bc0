pub mod Correlated
pub mod Absorbed
pub mod Forms
pub mod Choice
pub mod Unbeaten
pub mod Nearness
