pub mod FormLemmas
pub mod PadLemmas
pub mod ReadLemmas
pub mod SegmentLemmas
