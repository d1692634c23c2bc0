pub mod Thresholds
pub mod Concentration
pub mod ConcentrationEnds
pub mod Scales
