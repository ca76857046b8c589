pub mod Safe
pub mod Step
pub mod Measure
pub mod Start
