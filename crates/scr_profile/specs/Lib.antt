pub mod Interest
pub mod Matrix
pub mod DefaultClasses
pub mod Segments
pub mod CorrelationTables
pub mod StepTables
