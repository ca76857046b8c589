pub mod Stretch
pub mod Lengths
