pub mod Roots
pub mod Quotients
pub mod Fractions
pub mod Forms
pub mod AddedEnds
pub mod Witnesses
pub mod Enclosing
pub mod Quadratic
pub mod CentAmounts
pub mod Shares
mod Examples
pub mod AmountBounds
pub mod SumLemmas
pub mod Weights
pub mod Totals
pub mod Spreads
