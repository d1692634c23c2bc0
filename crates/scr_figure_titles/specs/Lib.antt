pub mod Articles
pub mod Words
pub mod Steps
pub mod Units
pub mod Titles
