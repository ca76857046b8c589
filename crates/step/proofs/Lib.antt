pub mod Settling
pub mod Supports
pub mod Carry
pub mod Moving
pub mod Steps
pub mod Least
