pub mod BscrBounds
pub mod OperationalBounds
pub mod AdjustmentBounds
