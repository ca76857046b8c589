pub mod Levels
pub mod Back
pub mod Lost
pub mod Rounds
