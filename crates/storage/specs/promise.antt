pub mod Answer
pub mod Lent
pub mod Faults
