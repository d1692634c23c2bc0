pub mod Segment
pub mod SegmentEnds
pub mod Nonlife
pub mod NonlifeEnds
