pub mod NonlifeBounds
pub mod SegmentBounds
