pub mod Stores
pub mod Passed
pub mod Zeros
