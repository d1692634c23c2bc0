pub mod BiometricBounds
