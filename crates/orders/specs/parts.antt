pub mod Ending
