pub mod Fresh
pub mod Unique
