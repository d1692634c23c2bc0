pub mod Exchanged
pub mod Compared
pub mod Covered
pub mod LookedUp
pub mod Given
pub mod AsExchanged
