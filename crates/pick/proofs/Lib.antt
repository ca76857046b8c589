pub mod Leaving
pub mod Picking
pub mod Dropping
pub mod Passing
