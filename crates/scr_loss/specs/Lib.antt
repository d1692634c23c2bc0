pub mod Bscr
pub mod BscrEnds
pub mod Operational
pub mod OperationalEnds
pub mod Absorption
pub mod AbsorptionEnds
