pub mod Biometric
pub mod BiometricEnds
