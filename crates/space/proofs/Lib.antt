pub mod Parts
pub mod Sections
pub mod Desks
pub mod Flags
