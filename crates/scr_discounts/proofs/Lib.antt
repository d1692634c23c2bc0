pub mod CurveRows
pub mod FallRows
