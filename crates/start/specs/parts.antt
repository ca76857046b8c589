pub mod Opening
pub mod Preparing
