pub mod Levelling
pub mod Rounds
pub mod Turns
pub mod Prepared
