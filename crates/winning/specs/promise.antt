pub mod Walk
pub mod Cycle
pub mod Wins
pub mod Answer
pub mod Faults
