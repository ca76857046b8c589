pub mod Amended
