pub mod Work
pub mod Desk
