pub mod Totals
pub mod Costs
pub mod SizeLemmas
