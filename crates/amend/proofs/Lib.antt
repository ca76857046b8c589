pub mod Differing
pub mod Counts
pub mod Reaching
pub mod Seeds
pub mod Copies
pub mod Marks
