pub mod Rising
pub mod Starts
pub mod Sizes
pub mod WellFormed
