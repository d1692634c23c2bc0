pub mod Amounts
pub mod ByNumber
