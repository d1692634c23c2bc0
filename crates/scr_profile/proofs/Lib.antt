pub mod CorrelationRules
pub mod Ranges
pub mod StressRules
pub mod PrintedRules
pub mod Words
