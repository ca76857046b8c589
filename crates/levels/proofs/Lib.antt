pub mod Flags
pub mod Floors
