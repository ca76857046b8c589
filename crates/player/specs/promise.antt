pub mod Player
pub mod Named
