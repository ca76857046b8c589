pub mod Faults
pub mod Writing
