pub mod Game
pub mod Tables
pub mod Faults
pub mod Lent
