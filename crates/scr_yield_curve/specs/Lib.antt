pub mod Rate
pub mod Discount
pub mod Parts
pub mod DiscountEnds
pub mod Falls
