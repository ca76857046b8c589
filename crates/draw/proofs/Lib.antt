pub mod Onward
pub mod Draws
pub mod Visits
