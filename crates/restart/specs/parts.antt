pub mod Restarting
