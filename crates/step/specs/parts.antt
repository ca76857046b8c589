pub mod State
pub mod Stepping
pub mod Outcome
