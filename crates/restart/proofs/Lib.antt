pub mod Seeds
pub mod Firms
pub mod Reaches
pub mod Restarts
pub mod Resets
pub mod Moves
