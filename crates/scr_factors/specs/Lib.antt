pub mod Forms
pub mod Held
pub mod Keys
pub mod Reading
pub mod Values
