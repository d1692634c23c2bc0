pub mod Command
pub mod Forms
pub mod Numbers
pub mod Options
pub mod Spelled
pub mod Texts
