pub mod Lists
pub mod Parting
pub mod Standing
pub mod Following
