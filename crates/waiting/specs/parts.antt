pub mod Lines
pub mod Moves
pub mod Open
