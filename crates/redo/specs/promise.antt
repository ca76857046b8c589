pub mod Redone
