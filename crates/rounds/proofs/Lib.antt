pub mod Running
pub mod Onward
