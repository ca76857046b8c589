pub mod Format
pub mod Filed
pub mod Faults
