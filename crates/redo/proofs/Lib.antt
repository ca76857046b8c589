pub mod Redoings
