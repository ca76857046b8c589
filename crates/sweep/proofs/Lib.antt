pub mod Looking
pub mod Gathers
pub mod Sweeps
